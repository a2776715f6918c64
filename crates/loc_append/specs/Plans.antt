-- What an append decides before it stores: its refusals, the ends of the areas before and after it, and its four places.
-- Of an inner crate: proofs/AppendLaws ties them to the places of loc_calls.
use Rattle.std.specs.Prelude.{ℕ, ◌+◌, ◌-◌, ◌*◌, ◌/◌, ◌^◌, ◌<◌, ◌≡◌, ◌≤◌, ◌||◌, ltb, length, Result, IfOk}
use mathlib.Core.List.{List, [], ◌∷◌, flatten}
use Rattle.loc_leaf.specs.declared.Kind.{Kind}
use Rattle.loc_leaf.specs.Area.{counted}
use Rattle.loc_leaf.specs.declared.refusal.Refusal.{Refusal}
use Rattle.loc_leaf.specs.Answers.{refuse, ◌or_else◌, refusal_of}
use Rattle.loc_leaf.specs.Kind.{row_width, checkpoint_width}
use Rattle.loc_calls.specs.Areas.{Areas, each, count}
use Rattle.loc_calls.specs.Table.{Entry, Batch, append, entries_refusal, start_refusal}
use Rattle.loc_calls.specs.Stores.{Place, slot_length, row_length, checkpoint_length, write, differing, gather, slot_of, row_of, checkpoint_of, staged, new_end}
use Rattle.loc_calls.specs.Reading.{end_read}
use Rattle.loc_calls.specs.Calls.{table_of}
use Rattle.loc_store.specs.declared.Lengths.{Lengths}
use Rattle.loc_store.specs.declared.Checked.{Checked}
use Rattle.loc_batch.specs.Lists.{entry_at, batched, row_total, Held, left, Room}
use Rattle.loc_append.specs.declared.Stage.{Stage}

-- bytes, then lengths of slots, rows, checkpoints
unfoldable pub stage_places : Kind → List Entry → Stage → List Place
stage_places k es t =
    write (each flatten (staged k t.base es))
    ∷ differing slot_length t.old.slots t.new.slots
    ∷ differing row_length t.old.rows t.new.rows
    ∷ differing checkpoint_length t.old.checkpoints t.new.checkpoints
    ∷ []

-- the parts of the areas past their published ends have room for the records es
unfoldable pub RoomPast : Kind → ℕ → List Entry → Areas → Type 0
RoomPast k base es a = Room k base es (each left a)

-- what the tests of a batch that is not empty find: 17, 23, 24, then the first refusal of a record; or, where there is none, how many rows they stage
pub record TestedOn (k : Kind) (a : Areas) (b : Batch) (found : Result ℕ Refusal) : Type 0 where
  pub refused : refusal_of found ≡ start_refusal (end_read k a) (entry_at k b 0) or_else entries_refusal k (batched k b)
  pub total : IfOk found (λ rows. rows ≡ row_total k (batched k b))

-- how many checkpoints n records after base others bring
abbrev pub windows : ℕ → ℕ → ℕ
windows base n = (base + n) / 1024 - base / 1024

-- the ends that n records reach, r of them with rows
unfoldable pub reached : Kind → Lengths → ℕ → ℕ → ℕ → Lengths
reached k old base n r =
    record { slots = old.slots + 2 * n; rows = old.rows + row_width k * r; checkpoints = old.checkpoints + checkpoint_width k * windows base n }

-- 13 where an end lies past an area of this size, or the end
pub record EndReached (size end : ℕ) (found : Result ℕ Refusal) : Type 0 where
  pub number : refusal_of found ≡ refuse (ltb size end) 13
  pub inside : IfOk found (λ e. (e ≡ end) × (end ≤ size))

-- 13, or the stage with these ends, on areas of which o was found
pub record Reaches (k : Kind) (a : Areas) (o : Checked) (n r : ℕ) (d : Result Stage Refusal) : Type 0 where
  pub number : refusal_of d ≡ refuse (ltb (length a.slots) (reached k o.ends o.count n r).slots || ltb (length a.rows) (reached k o.ends o.count n r).rows || ltb (length a.checkpoints) (reached k o.ends o.count n r).checkpoints) 13
  pub stage : IfOk d (λ t. (t ≡ record { base = o.count; old = o.ends; new = reached k o.ends o.count n r }) × (o.count + n < 2 ^ 64))

-- a stage of the records es on these areas
pub record Ready (k : Kind) (a : Areas) (es : List Entry) (t : Stage) : Type 0 where
  pub base : t.base ≡ count a
  pub old_slots : t.old.slots ≡ counted a.slots
  pub old_rows : t.old.rows ≡ counted a.rows
  pub old_checkpoints : t.old.checkpoints ≡ counted a.checkpoints
  pub new_slots : t.new.slots ≡ new_end a.slots (gather (slot_of k) t.base es)
  pub new_rows : t.new.rows ≡ new_end a.rows (gather (row_of k) t.base es)
  pub new_checkpoints : t.new.checkpoints ≡ new_end a.checkpoints (gather (checkpoint_of k) t.base es)
  pub room : RoomPast k t.base es a

-- the stage t is one of the batch's records
pub record Staging (k : Kind) (a : Areas) (b : Batch) (t : Stage) : Type 0 where
  pub entries : Rattle.loc_calls.specs.Table.entries k b ≡ batched k b
  pub ready : Ready k a (batched k b) t
  pub held : Held k b (length b.lens)

-- the refusals of the table or, where there is none, a stage of the batch's records
pub record Planned (k : Kind) (a : Areas) (b : Batch) (d : Result Stage Refusal) : Type 0 where
  pub number : refusal_of d ≡ table_of k a (append b)
  pub staging : IfOk d (Staging k a b)
