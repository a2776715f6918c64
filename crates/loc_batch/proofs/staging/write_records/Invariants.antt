-- `staging::write_records` meets its contract.
use Rattle.std.specs.Prelude.{length}
use Rattle.loc_calls.specs.Lent.{lists}
use Rattle.loc_calls.specs.Areas.{areas}
use Rattle.loc_batch.proofs.StageLaws.{Writing}
use Rattle.loc_batch.specs.Lists.{entry_at}
use Rattle.loc_batch.proofs.staging.write_records.Given as goal

abbrev pub invariant-loop-i : goal.invariant-loop-i
invariant-loop-i l =
    Writing l.kind (entry_at l.kind (lists l.b)) l.base (length l.b.lens.now) l.i (areas l.slots l.rows l.checkpoints) (record { slots = l.slot_to; rows = l.row_to; checkpoints = l.checkpoint_to }) (areas l.initial.slots l.initial.rows l.initial.checkpoints)
