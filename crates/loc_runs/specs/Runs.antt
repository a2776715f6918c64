-- A run: keys whose numbers lie in one window.
-- ids are the wanted numbers, n is the count.
use Rattle.std.specs.Prelude.{ℕ, ◌/◌, ◌≤◌, ◌<◌, ◌≡◌, List, length, get_or}
use Rattle.loc_leaf.specs.declared.Kind.{Kind}
use Rattle.loc_leaf.specs.Kind.{window_of, within_window}
use Rattle.loc_calls.specs.Reading.{looked_at}
use Rattle.loc_order.specs.Order.{All}
use Rattle.loc_order.specs.Keys.{places_from, wanted_by, KeyOf}

-- the keys `from` to `end`: m is the most records that one of them looks at, and the block of each is marked
pub record IsRun (k : Kind) (n : ℕ) (ids keys : List ℕ) (from end m stamp : ℕ) (mark : List ℕ) : Type 0 where
  pub more : from < end
  pub inside : end ≤ length keys
  pub window : (t : ℕ) → from ≤ t → t < end → window_of (wanted_by ids keys t) ≡ window_of (wanted_by ids keys from)
  pub looked : (t : ℕ) → from ≤ t → t < end → looked_at k n (wanted_by ids keys t) ≤ m
  pub marked : (t : ℕ) → from ≤ t → t < end → get_or mark (within_window (wanted_by ids keys t) / 8) 0 ≡ stamp
  pub most : ℕ
  pub most_from : from ≤ most
  pub most_end : most < end
  pub is_most : looked_at k n (wanted_by ids keys most) ≡ m

-- the numbers of the whole list lie in one window: m is the most records that one of them looks at, and 1 marks the block of each
pub record OneRun (k : Kind) (n : ℕ) (ids : List ℕ) (m : ℕ) (mark : List ℕ) : Type 0 where
  pub keys : All (KeyOf n ids) (places_from 0 (length ids))
  pub run : IsRun k n ids (places_from 0 (length ids)) 0 (length ids) m 1 mark
