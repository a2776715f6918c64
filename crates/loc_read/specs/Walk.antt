-- The walk over the windows of sorted keys.
-- ids are the wanted numbers, n is the count, nr counts the rows.
use Rattle.std.specs.Prelude.{ℕ, ◌+◌, ◌*◌, ◌^◌, ◌≤◌, ◌<◌, ◌≡◌, true, false, List, length, get_or}
use Rattle.loc_leaf.specs.declared.Kind.{Kind}
use Rattle.loc_leaf.specs.Bytes.{Bytes}
use Rattle.loc_leaf.specs.Answers.{refuse}
use Rattle.loc_calls.specs.Areas.{Areas, count}
use Rattle.loc_calls.specs.Table.{word_width}
use Rattle.loc_calls.specs.Reading.{row_missing, any_missing, words_for}
use Rattle.loc_order.specs.Keys.{place_of, wanted_by}
use Rattle.loc_answer.specs.Words.{Has}
use Rattle.loc_window.specs.Window.{window_areas, complete, Rising, SumsStored}

-- what the walk asks of the areas: so many records and rows are published, and the rows ascend
pub record Readable (k : Kind) (a : Areas) (n nr : ℕ) : Type 0 where
  pub counted : n ≡ count a
  pub room : 16 + 2 * n ≤ length a.slots
  pub low : 16 + 2 * n < 2 ^ 64
  pub rise : Rising k a.rows nr

-- the sums of a window's first m records, of whose blocks some are marked, stand in reading's arrays
pub record InArrays (k : Kind) (f m : ℕ) (bytes rows : Bytes) (mark : List ℕ) (stamp : ℕ) (body span : List ℕ) : Type 0 where
  pub known : complete k (window_areas f bytes rows) f m ≡ true
  pub stored : SumsStored k f bytes rows mark stamp m body span
  pub body_long : length body ≡ 1025
  pub span_long : length span ≡ 1025

-- the words that are right at a place
abbrev pub right_at : Kind → Areas → List ℕ → ℕ → List ℕ
right_at k a ids p = words_for k a (get_or ids p 0)

abbrev pub HasRight : Kind → Areas → List ℕ → List ℕ → ℕ → Type 0
HasRight k a ids out p = Has (word_width k) out p (right_at k a ids p)

-- the keys before i are answered and look at no slot that lacks its row, and a place that had its words has them still
pub record Passing (k : Kind) (a : Areas) (ids keys : List ℕ) (i : ℕ) (old new : List ℕ) : Type 0 where
  pub inside : i ≤ length keys
  pub long : length new ≡ length old
  pub answers : (t : ℕ) → t < i → HasRight k a ids new (place_of (get_or keys t 0))
  pub complete : (t : ℕ) → t < i → row_missing k a (wanted_by ids keys t) ≡ false
  pub kept : (p : ℕ) → HasRight k a ids old p → HasRight k a ids new p

-- every place has its words
unfoldable pub Answered : Kind → Areas → List ℕ → List ℕ → Type 0
Answered k a ids out = (p : ℕ) → p < length ids → HasRight k a ids out p

-- what a walk returns: 17 where a slot that is looked at lacks its row, else 0 and every place has its words
pub record Finished (k : Kind) (a : Areas) (ids out : List ℕ) (number : ℕ) : Type 0 where
  pub refused : number ≡ refuse (any_missing k a ids) 17
  pub answered : number ≡ 0 → Answered k a ids out
