-- Words of answers at their places: place p of w words each begins at word w × p.
-- A store of right words anywhere keeps what is right elsewhere, so nothing here asks that places differ.
use Rattle.std.specs.Prelude.{ℕ, ◌+◌, ◌-◌, ◌*◌, ◌^◌, ◌≤◌, ◌<◌, ◌≡◌, List, length, get_or}
use Rattle.loc_leaf.specs.declared.Kind.{Kind}
use Rattle.loc_leaf.specs.Kind.{within_window}
use Rattle.loc_calls.specs.Table.{word_width}
use Rattle.loc_calls.specs.Reading.{words}
use Rattle.loc_order.specs.Keys.{place_of, wanted_by}

-- place p has these words
unfoldable pub Has : ℕ → List ℕ → ℕ → List ℕ → Type 0
Has w out p ws = (q : ℕ) → q < w → get_or out (w * p + q) 0 ≡ get_or ws q 0

-- place p got these words, and every other word is as it was
pub record Put (w : ℕ) (old : List ℕ) (p : ℕ) (ws new : List ℕ) : Type 0 where
  pub long : length new ≡ length old
  pub there : Has w new p ws
  pub below : (x : ℕ) → x < w * p → get_or new x 0 ≡ get_or old x 0
  pub above : (x : ℕ) → w * p + w ≤ x → get_or new x 0 ≡ get_or old x 0

-- the sums before and after record j of a window stand in the arrays, and are low enough for eight times them
pub record Summed (body span : List ℕ) (j : ℕ) : Type 0 where
  pub in_body : j + 1 < length body
  pub in_span : j + 1 < length span
  pub body_rises : get_or body j 0 ≤ get_or body (j + 1) 0
  pub span_rises : get_or span j 0 ≤ get_or span (j + 1) 0
  pub body_low : get_or body (j + 1) 0 ≤ 2 ^ 60
  pub span_low : get_or span (j + 1) 0 ≤ 2 ^ 60

-- the words that these sums give record j of a window, with the ends b and s before the window
unfoldable pub sum_words : Kind → ℕ → ℕ → List ℕ → List ℕ → ℕ → List ℕ
sum_words k b s body span j =
    words k (b + 8 * get_or body j 0) (s + 8 * get_or span j 0)
    (record { strides = get_or body (j + 1) 0 - get_or body j 0; spans = get_or span (j + 1) 0 - get_or span j 0 })

-- a run of keys whose places lie in the list and in out, and whose records' sums stand in the arrays
pub record RunSafe (k : Kind) (ids keys : List ℕ) (from end : ℕ) (body span out : List ℕ) : Type 0 where
  pub order : from ≤ end
  pub inside : end ≤ length keys
  pub room : word_width k * length ids ≤ length out
  pub place : (t : ℕ) → from ≤ t → t < end → place_of (get_or keys t 0) < length ids
  pub summed : (t : ℕ) → from ≤ t → t < end → Summed body span (within_window (wanted_by ids keys t))

-- no number of a list is 0
abbrev pub AllSome : List ℕ → Type 0
AllSome ids = (p : ℕ) → p < length ids → 0 < get_or ids p 0

-- W says which words are right at each place, and the sums give those of the run
unfoldable pub Agrees : Kind → List ℕ → List ℕ → ℕ → ℕ → ℕ → ℕ → List ℕ → List ℕ → (ℕ → List ℕ) → Type 0
Agrees k ids keys from end b s body span W =
    (t : ℕ) → from ≤ t → t < end → W (place_of (get_or keys t 0)) ≡ sum_words k b s body span (within_window (wanted_by ids keys t))

-- whatever words are right: the run's places have them now, and a place that had them has them still
pub record RunPut (k : Kind) (ids keys : List ℕ) (from end b s : ℕ) (body span old new : List ℕ) : Type 0 where
  pub long : length new ≡ length old
  pub put : (W : ℕ → List ℕ) → Agrees k ids keys from end b s body span W
      → (t : ℕ) → from ≤ t → t < end → Has (word_width k) new (place_of (get_or keys t 0)) (W (place_of (get_or keys t 0)))
  pub kept : (W : ℕ → List ℕ) → Agrees k ids keys from end b s body span W → (p : ℕ) → Has (word_width k) old p (W p) → Has (word_width k) new p (W p)

-- the words from x on are as they were
abbrev pub SamePast : ℕ → List ℕ → List ℕ → Type 0
SamePast x old new = (y : ℕ) → x ≤ y → get_or new y 0 ≡ get_or old y 0
