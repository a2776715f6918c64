-- Which stores truncation, opening and append make, and in which order (document 01, "create_loc.rs and the rest", "Tear").
-- A call's places are decided before anything is stored; `run s` makes the stores of the first s.
use Rattle.std.specs.Prelude.{ℕ, zero, suc, ◌+◌, ◌-◌, ◌*◌, ◌/◌, ◌%◌, Bool, true, false, cond, not, ◌&&◌, ◌||◌, leb, eqb, length, take, drop}
use mathlib.Core.List.{List, [], ◌∷◌, ◌++◌, flatten}
use Rattle.loc_leaf.specs.declared.Kind.{Kind}
use Rattle.loc_leaf.specs.declared.Kind.TheVariants.{Paired, Single}
use Rattle.loc_leaf.specs.Bytes.{Bytes, bytes}
use Rattle.loc_leaf.specs.Answers.{refuse, ◌or_else◌}
use Rattle.loc_leaf.specs.Area.{counted, store_length, store_past, fill}
use Rattle.loc_leaf.specs.Kind.{row_width, checkpoint_width}
use Rattle.loc_leaf.specs.Slot.{slot, needs_row, checkpoint_rule}
use Rattle.loc_leaf.specs.Rows.{row, row_list, ascending, last_number, rows_up_to}
use Rattle.loc_leaf.specs.Cut.{cut_for}
use Rattle.loc_calls.specs.Areas.{Three, each, each₂, Areas, count}
use Rattle.loc_calls.specs.Table.{Entry, value_of, body_after, span_after}

-- ---- places

-- nothing; a published length; staged bytes
pub data Place : Type 0 where
  keep : Place
  slot_length row_length checkpoint_length : ℕ → Place
  write : Three Bytes → Place

-- a step function makes the store of one place and no other
unfoldable pub step : Place → Areas → Areas
step keep a = a
step (slot_length v) a = record { slots = store_length v a.slots; rows = a.rows; checkpoints = a.checkpoints }
step (row_length v) a = record { slots = a.slots; rows = store_length v a.rows; checkpoints = a.checkpoints }
step (checkpoint_length v) a = record { slots = a.slots; rows = a.rows; checkpoints = store_length v a.checkpoints }
step (write b) a = each₂ store_past b a

-- a run of it over the first s places
unfoldable pub run : ℕ → List Place → Areas → Areas
run zero ps a = a
run (suc s) [] a = a
run (suc s) (p ∷ ps) a = run s ps (step p a)

-- a length is stored only where it differs from the old one
unfoldable pub differing : (ℕ → Place) → ℕ → ℕ → Place
differing place old v = cond (eqb v old) keep (place v)

-- open and truncation store only a length that differs from the counted one: the length of one area, to these ends
abbrev pub slots_to : Areas → Three ℕ → Place
slots_to a ends = differing slot_length (counted a.slots) ends.slots

abbrev pub rows_to : Areas → Three ℕ → Place
rows_to a ends = differing row_length (counted a.rows) ends.rows

abbrev pub checkpoints_to : Areas → Three ℕ → Place
checkpoints_to a ends = differing checkpoint_length (counted a.checkpoints) ends.checkpoints

-- ---- truncation to n records

-- n slots, those of the rows that are numbered up to n, and n div 1,024 checkpoints
abbrev pub ends_at : Kind → ℕ → Bytes → Three ℕ
ends_at k n rows = record {
  slots = 16 + 2 * n;
  rows = 16 + row_width k * rows_up_to n (row_list k rows);
  checkpoints = 16 + checkpoint_width k * (n / 1024);
}

-- truncation stores lengths of checkpoints, rows, slots
unfoldable pub truncate_places : Kind → ℕ → Areas → List Place
truncate_places k n a = checkpoints_to a (ends_at k n a.rows) ∷ rows_to a (ends_at k n a.rows) ∷ slots_to a (ends_at k n a.rows) ∷ []

-- ---- opening

-- the bytes at a place are read as a row,
abbrev pub row_bytes_at : Kind → ℕ → Bytes → Bytes
row_bytes_at k at rows = take (row_width k) (drop at rows)

-- here those just past the published rows,
unfoldable pub next_row : Kind → Bytes → Bytes
next_row k rows = row_bytes_at k (counted rows) rows

-- if the area holds that many
unfoldable pub holds_next : Kind → Bytes → Bool
holds_next k rows = leb (counted rows + row_width k) (length rows)

-- the count that the cut rule keeps
unfoldable pub cut_rule : Kind → Areas → ℕ
cut_rule k a =
    cond (holds_next k a.rows)
    (cut_for k a.slots (count a) (last_number 0 (row_list k a.rows)) (next_row k a.rows))
    (count a)

-- the count that the checkpoint rule keeps
unfoldable pub ruled_count : Kind → Areas → ℕ
ruled_count k a = checkpoint_rule (count a) (fill (checkpoint_width k) a.checkpoints)

-- open applies the checkpoint rule, drops rows above the count,
unfoldable pub ruled : Kind → Areas → Areas
ruled k a = run 3 (truncate_places k (ruled_count k a) a) a

-- then applies the cut rule, on what that leaves; each of the two rules stores as a truncation does
unfoldable pub open_places : Kind → Areas → List Place
open_places k a = truncate_places k (ruled_count k a) a ++ truncate_places k (cut_rule k (ruled k a)) (ruled k a)

-- the published bytes are no whole number of pieces
unfoldable pub ragged : ℕ → Bytes → Bool
ragged w xs = not (eqb ((counted xs - 16) % w) 0)

-- 2: slot data odd; 3: checkpoint data not whole; 4: row data not whole; 5: a row numbered 0, or not above the row before
unfoldable pub open_refusal : Kind → Areas → ℕ
open_refusal k a =
    refuse (ragged 2 a.slots) 2
    or_else refuse (ragged (checkpoint_width k) a.checkpoints) 3
    or_else refuse (ragged (row_width k) a.rows) 4
    or_else refuse (not (ascending 0 (row_list k a.rows))) 5

-- whether a place has something to store
unfoldable pub stores : Place → Bool
stores keep = false
stores (slot_length v) = true
stores (row_length v) = true
stores (checkpoint_length v) = true
stores (write b) = true

unfoldable pub any_stores : List Place → Bool
any_stores [] = false
any_stores (p ∷ ps) = stores p || any_stores ps

-- 6 is given unless opening would neither refuse nor change a stored length
unfoldable pub settled : Kind → Areas → Bool
settled k a = eqb (open_refusal k a) 0 && not (any_stores (open_places k a))

-- ---- append

-- both absolute ends after a record, body then span; a single checkpoint has the one
unfoldable pub checkpoint : Kind → Entry → Bytes
checkpoint Paired e = bytes 8 (body_after e) ++ bytes 8 (span_after e)
checkpoint Single e = bytes 8 (body_after e)

-- what f makes of each record and its number, records numbered from n + 1
unfoldable pub gather : (ℕ → Entry → List Bytes) → ℕ → List Entry → List Bytes
gather f n [] = []
gather f n (e ∷ es) = f (suc n) e ++ gather f (suc n) es

-- a slot for each record,
abbrev pub slot_of : Kind → ℕ → Entry → List Bytes
slot_of k n e = slot k (value_of e) ∷ []

-- a row for one whose slot needs it,
unfoldable pub row_of : Kind → ℕ → Entry → List Bytes
row_of k n e = cond (needs_row k (slot k (value_of e))) (row k n (value_of e) ∷ []) []

-- a checkpoint after record 1,024 × w
unfoldable pub checkpoint_of : Kind → ℕ → Entry → List Bytes
checkpoint_of k n e = cond (eqb (n % 1024) 0) (checkpoint k e ∷ []) []

-- append stages slots, rows and checkpoints
unfoldable pub staged : Kind → ℕ → List Entry → Three (List Bytes)
staged k n es = record { slots = gather (slot_of k) n es; rows = gather (row_of k) n es; checkpoints = gather (checkpoint_of k) n es }

-- the end that an area reaches with the pieces behind its published end
unfoldable pub new_end : Bytes → List Bytes → ℕ
new_end xs bs = counted xs + length (flatten bs)

-- the ends that a batch would reach
unfoldable pub new_ends : Kind → Areas → List Entry → Three ℕ
new_ends k a es = each₂ new_end a (staged k (count a) es)

-- each goes into the part of its area that begins at the published end. Store order: those bytes, then lengths of slots,
-- rows, checkpoints; a length is stored only in an area that got bytes, which is one whose end differs
unfoldable pub append_places : Areas → Three (List Bytes) → List Place
append_places a b =
    write (each flatten b) ∷ slots_to a (each₂ new_end a b) ∷ rows_to a (each₂ new_end a b) ∷ checkpoints_to a (each₂ new_end a b) ∷ []
