-- A batch as four lent lists, record by record, and the areas as three lent slices.
-- A list that ends early counts as 0 from there on; number 7 refuses it before that matters.
use Rattle.std.specs.Prelude.{ℕ, zero, suc, ◌+◌, ◌-◌, ◌/◌, ◌^◌, ◌≤◌, ◌<◌, ◌≡◌, false, cond, length, get_or, Result, IfOk}
use mathlib.Core.List.{List, [], ◌∷◌, flatten}
use Rattle.loc_leaf.specs.declared.Kind.{Kind}
use Rattle.loc_leaf.specs.declared.Kind.TheVariants.{Paired, Single}
use Rattle.loc_leaf.specs.declared.refusal.Refusal.{Refusal}
use Rattle.loc_leaf.specs.Answers.{refusal_of}
use Rattle.loc_leaf.specs.Bytes.{Bytes, store}
use Rattle.loc_leaf.specs.Area.{counted}
use Rattle.loc_leaf.specs.Slot.{slot, needs_row}
use Rattle.loc_calls.specs.Areas.{Areas, Three}
use Rattle.loc_calls.specs.Stores.{gather, slot_of, row_of, checkpoint_of}
use Rattle.loc_calls.specs.Table.{Batch, Entry, value_of, uneven, spanless, entries_refusal}
use Rattle.loc_batch.specs.declared.Record.{Record}

-- record i of a batch, counted from 0
unfoldable pub entry_at : Kind → Batch → ℕ → Entry
entry_at Paired b i = record { start = get_or b.starts i 0; len = get_or b.lens i 0; span_start = get_or b.span_starts i 0; spans = get_or b.span_counts i 0 }
entry_at Single b i = record { start = get_or b.starts i 0; len = get_or b.lens i 0; span_start = 16; spans = 0 }

-- the lists of a batch that are read hold n records
pub record Held (k : Kind) (b : Batch) (n : ℕ) : Type 0 where
  pub even : uneven k b ≡ false
  pub inside : n ≤ length b.lens

-- the code's record as an entry
unfoldable pub as_entry : Record → Entry
as_entry r = record { start = r.start; len = r.len; span_start = r.span_start; spans = r.spans }

-- the n records from record i on
unfoldable pub listed : (ℕ → Entry) → ℕ → ℕ → List Entry
listed f i zero = []
listed f i (suc n) = f i ∷ listed f (i + 1) n

-- the records of a batch, as many as it has lengths
abbrev pub batched : Kind → Batch → List Entry
batched k b = listed (entry_at k b) 0 (length b.lens)

-- what 8, 22, 9 and 10 leave of a record
pub record Sound (k : Kind) (e : Entry) : Type 0 where
  pub some : 0 < e.len / 8
  pub fits : e.len / 8 < 2 ^ 32
  pub spanned : spanless k e ≡ false

-- how many rows a record stages, and a list of them
unfoldable pub rows_of : Kind → Entry → ℕ
rows_of k e = cond (needs_row k (slot k (value_of e))) 1 0

unfoldable pub row_total : Kind → List Entry → ℕ
row_total k [] = 0
row_total k (e ∷ es) = rows_of k e + row_total k es

-- what a pass over the records of a batch finds: the first refusal or, where there is none, how many rows they stage
pub record Tested (k : Kind) (es : List Entry) (found : Result ℕ Refusal) : Type 0 where
  pub refused : refusal_of found ≡ entries_refusal k es
  pub total : IfOk found (λ rows. rows ≡ row_total k es)

-- the pieces bs are stored at a place, and the next place is past them
pub record Written (before : Bytes) (at : ℕ) (bs : List Bytes) (after : Bytes) (next : ℕ) : Type 0 where
  pub stored : after ≡ store at (flatten bs) before
  pub past : next ≡ at + length (flatten bs)

-- how many bytes lie past an area's published end
abbrev pub left : Bytes → ℕ
left xs = length xs - counted xs

-- the records es of an accepted batch have room: in parts of these sizes, and in the numbers after base
pub record Room (k : Kind) (base : ℕ) (es : List Entry) (size : Three ℕ) : Type 0 where
  pub accepted : entries_refusal k es ≡ 0
  pub in_slots : length (flatten (gather (slot_of k) base es)) ≤ size.slots
  pub in_rows : length (flatten (gather (row_of k) base es)) ≤ size.rows
  pub in_checkpoints : length (flatten (gather (checkpoint_of k) base es)) ≤ size.checkpoints
  pub in_numbers : base + length es < 2 ^ 64

-- the three parts begin with what the records stage
pub record Staged (k : Kind) (base : ℕ) (es : List Entry) (a a' : Areas) : Type 0 where
  pub is_slots : a'.slots ≡ store 0 (flatten (gather (slot_of k) base es)) a.slots
  pub is_rows : a'.rows ≡ store 0 (flatten (gather (row_of k) base es)) a.rows
  pub is_checkpoints : a'.checkpoints ≡ store 0 (flatten (gather (checkpoint_of k) base es)) a.checkpoints
