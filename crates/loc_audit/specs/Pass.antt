-- One record of the audit's pass, as the code makes it.
-- Of an inner crate: proofs/PassLaws ties a pass over all records to what loc_calls says of a sound index.
use Rattle.std.specs.Prelude.{ℕ, ◌+◌, ◌*◌, ◌/◌, ◌%◌, ◌^◌, ◌≡◌, Bool, true, cond, not, ◌&&◌, ◌||◌, ltb, eqb, Option, Some, None}
use Rattle.std.specs.Option.{is_some}
use Rattle.loc_leaf.specs.declared.Kind.{Kind}
use Rattle.loc_leaf.specs.declared.Value.{Value}
use Rattle.loc_leaf.specs.Bytes.{Bytes, number_at}
use Rattle.loc_leaf.specs.Area.{fill}
use Rattle.loc_leaf.specs.Kind.{checkpoint_width}
use Rattle.loc_leaf.specs.Slot.{needs_row, inline, slot_at}
use Rattle.loc_leaf.specs.Rows.{row_list, ascending}
use Rattle.loc_calls.specs.Areas.{Areas, count}
use Rattle.loc_calls.specs.Reading.{checkpoint_at}
use Rattle.loc_calls.specs.Audit.{both_ends, row_wanted}
use Rattle.loc_rows.specs.declared.Row.{Row}
use Rattle.loc_audit.specs.declared.Ends.{Ends}

-- what the row at the reader's place says of record id
unfoldable pub own_value : Option Row → ℕ → Option Value
own_value (Some r) id = cond (eqb r.number id) (Some (record { strides = r.strides; spans = r.spans })) None
own_value None id = None

-- the reader's place after record id: one row on, if the row at its place is that record's
unfoldable pub place_after : ℕ → Option Row → ℕ → ℕ → ℕ
place_after w row id at = cond (is_some (own_value row id)) (at + w) at

-- a row that is wanted says both values, and a slot that needs none says its own: nothing where a row is not wanted, or lacking
unfoldable pub slot_says : Kind → Bytes → Option Value → Option Value
slot_says k s (Some v) = cond (row_wanted k s v) (Some v) None
slot_says k s None = cond (needs_row k s) None (Some (inline k s))

-- a plain sum, where it stays below 2^64
unfoldable pub end_after : ℕ → ℕ → Option ℕ
end_after end units = cond (ltb (end + 8 * units) (2 ^ 64)) (Some (end + 8 * units)) None

-- both ends after a record of this value, where both stay below 2^64; a single one has no spans
unfoldable pub added : Ends → Value → Option Ends
added e v =
    cond (ltb (e.body + 8 * v.strides) (2 ^ 64) && ltb (e.span + 8 * v.spans) (2 ^ 64))
    (Some (record { body = e.body + 8 * v.strides; span = e.span + 8 * v.spans }))
    None

-- a record of which slot and row say nothing makes the index unsound
unfoldable pub valued : Ends → Option Value → Option Ends
valued e (Some v) = added e v
valued e None = None

-- the ends after record id, of which this is what its row says
unfoldable pub record_step : Kind → Bytes → ℕ → Option Value → Ends → Option Ends
record_step k slots id own e = valued e (slot_says k (slot_at slots id) own)

-- checkpoint w is these ends
unfoldable pub checkpoint_is : Kind → Bytes → ℕ → Ends → Bool
checkpoint_is k xs w e = both_ends k (eqb (number_at 8 0 (checkpoint_at k xs w)) e.body) (eqb (number_at 8 8 (checkpoint_at k xs w)) e.span)

-- one stands after record 1,024 × w
unfoldable pub checkpoint_holds : Kind → Bytes → ℕ → Ends → Bool
checkpoint_holds k xs id e = not (eqb (id % 1024) 0) || checkpoint_is k xs (id / 1024) e

unfoldable pub tested : Kind → Bytes → ℕ → Option Ends → Option Ends
tested k xs id (Some e) = cond (checkpoint_holds k xs id e) (Some e) None
tested k xs id None = None

unfoldable pub ends_after : Kind → Bytes → Bytes → ℕ → Option Value → Ends → Option Ends
ends_after k slots checkpoints id own e = tested k checkpoints id (record_step k slots id own e)

-- what the pass asks of the areas, and number 6 has tested: rows that ascend, and a checkpoint after every 1,024 records
pub record Auditable (k : Kind) (a : Areas) : Type 0 where
  pub ascend : ascending 0 (row_list k a.rows) ≡ true
  pub checkpointed : fill (checkpoint_width k) a.checkpoints ≡ count a / 1024
