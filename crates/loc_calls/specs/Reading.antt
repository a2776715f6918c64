-- What a reading finds, and where by it the list ends (document 01, "create_loc.rs and the rest": reading; "What each call gives"; document 02, Item 5).
-- Each wanted number is taken by itself; the order in which the code takes them is its own.
use Rattle.std.specs.Prelude.{ℕ, zero, suc, ◌+◌, ◌-◌, ◌*◌, min, Bool, true, false, cond, not, ◌&&◌, ◌||◌, leb, ltb, length, take, drop, replicate, Option, Some, None}
use mathlib.Core.List.{List, [], ◌∷◌, ◌++◌, map, flatten}
use Rattle.loc_leaf.specs.declared.Kind.{Kind}
use Rattle.loc_leaf.specs.declared.Kind.TheVariants.{Paired, Single}
use Rattle.loc_leaf.specs.declared.Value.{Value}
use Rattle.loc_leaf.specs.Answers.{refuse, ◌or_else◌}
use Rattle.loc_leaf.specs.Bytes.{Bytes, number_at}
use Rattle.loc_leaf.specs.Kind.{checkpoint_width, window_of, within_window}
use Rattle.loc_leaf.specs.Slot.{slot_at}
use Rattle.loc_leaf.specs.Rows.{row_list, slot_value, value_in}
use Rattle.loc_calls.specs.Areas.{Areas, count}
use Rattle.loc_calls.specs.Table.{word_width, saturated, ListEnd}

-- ---- over the n numbers that follow m

unfoldable pub sum_after : (ℕ → ℕ) → ℕ → ℕ → ℕ
sum_after f m zero = 0
sum_after f m (suc n) = sum_after f m n + f (m + suc n)

unfoldable pub all_after : (ℕ → Bool) → ℕ → ℕ → Bool
all_after f m zero = true
all_after f m (suc n) = all_after f m n && f (m + suc n)

-- the lowest of them that passes a test, 0 where none does
unfoldable pub first_after : (ℕ → Bool) → ℕ → ℕ → ℕ
first_after f m zero = 0
first_after f m (suc n) = first_after f m n or_else refuse (f (m + suc n)) (m + suc n)

-- ---- records

-- what slot and row say of record id
unfoldable pub lookup_at : Kind → Areas → ℕ → Option Value
lookup_at k a id = slot_value k (row_list k a.rows) id (slot_at a.slots id)

-- no row is missing
unfoldable pub has : Option Value → Bool
has (Some v) = true
has None = false

unfoldable pub value_at : Kind → Areas → ℕ → Value
value_at k a id = value_in (lookup_at k a id)

-- none of the n records that follow record m lacks its row
abbrev pub complete : Kind → Areas → ℕ → ℕ → Bool
complete k a m n = all_after (λ i. has (lookup_at k a i)) m n

-- their strides and their spans
unfoldable pub strides_after : Kind → Areas → ℕ → ℕ → ℕ
strides_after k a m n = sum_after (λ i. (value_at k a i).strides) m n

unfoldable pub spans_after : Kind → Areas → ℕ → ℕ → ℕ
spans_after k a m n = sum_after (λ i. (value_at k a i).spans) m n

-- ---- windows

-- how many records stand before the window of record id
abbrev pub before : ℕ → ℕ
before id = 1024 * window_of id

-- checkpoint w, counted from 1
unfoldable pub checkpoint_at : Kind → Bytes → ℕ → Bytes
checkpoint_at k xs w = take (checkpoint_width k) (drop (16 + checkpoint_width k * (w - 1)) xs)

-- reading sums from the window's checkpoint, or from 16 in window 0; body at 0, span at 8
unfoldable pub window_end : Kind → Areas → ℕ → ℕ → ℕ
window_end k a at zero = 16
window_end k a at (suc w) = number_at 8 at (checkpoint_at k a.checkpoints (suc w))

-- a paired reading looks at slots up to the largest wanted number of the window, a single one at the whole window up to the count
unfoldable pub looked_at : Kind → ℕ → ℕ → ℕ
looked_at Paired n id = suc (within_window id)
looked_at Single n id = min 1024 (n - before id)

-- ---- wanted numbers

-- between 1 and the count
unfoldable pub within : ℕ → ℕ → Bool
within n id = ltb 0 id && leb id n

-- 17: a slot that is looked at needs a row and has none
unfoldable pub row_missing : Kind → Areas → ℕ → Bool
row_missing k a id = within (count a) id && not (complete k a (before id) (looked_at k (count a) id))

unfoldable pub any_missing : Kind → Areas → List ℕ → Bool
any_missing k a [] = false
any_missing k a (id ∷ ids) = row_missing k a id || any_missing k a ids

-- found 1 or 0, body start and length, span start and length, span count; single: found, start, length.
-- Paired sums saturate at 2^64 − 1 while a length stays strides × 8; a single length is the difference of saturated sums
unfoldable pub words : Kind → ℕ → ℕ → Value → List ℕ
words Paired body span v = 1 ∷ saturated body ∷ 8 * v.strides ∷ saturated span ∷ 8 * v.spans ∷ v.spans ∷ []
words Single body span v = 1 ∷ saturated body ∷ (saturated (body + 8 * v.strides) - saturated body) ∷ []

-- all are 0 where nothing is found
unfoldable pub words_for : Kind → Areas → ℕ → List ℕ
words_for k a id =
    cond (within (count a) id)
    (words k
    (window_end k a 0 (window_of id) + 8 * strides_after k a (before id) (within_window id))
    (window_end k a 8 (window_of id) + 8 * spans_after k a (before id) (within_window id))
    (value_at k a id))
    (replicate (word_width k) 0)

-- words past the answers are untouched
unfoldable pub answered : (ℕ → List ℕ) → List ℕ → List ℕ → List ℕ
answered f ids out = flatten (map f ids) ++ drop (length (flatten (map f ids))) out

-- how many entries of the list lie between 1 and the count, repeats counted
unfoldable pub found : ℕ → List ℕ → ℕ
found n [] = 0
found n (id ∷ ids) = cond (within n id) (suc (found n ids)) (found n ids)

-- ---- where the list ends

-- the sums over the last record's window, with it, from the checkpoint before the window on: 16 where there is no record
unfoldable pub body_read : Kind → Areas → ℕ
body_read k a = window_end k a 0 (window_of (count a)) + 8 * strides_after k a (before (count a)) (count a - before (count a))

-- a single index has no spans
unfoldable pub span_read : Kind → Areas → ℕ
span_read Paired a = window_end Paired a 8 (window_of (count a)) + 8 * spans_after Paired a (before (count a)) (count a - before (count a))
span_read Single a = 16

-- as a reading of the last record gives it; the checkpoint behind a full window plays no part
unfoldable pub end_read : Kind → Areas → ListEnd
end_read k a = record { unread = row_missing k a (count a); body = body_read k a; span = span_read k a }
