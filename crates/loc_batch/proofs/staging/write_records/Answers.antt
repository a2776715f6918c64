-- `staging::write_records` meets its contract.
use mathlib.Core.Path.{refl}
use native.Mathlib.Omega.{arith}
use lib.ListN.{length}
use Rattle.loc_calls.specs.Lent.{lists}
use Rattle.loc_batch.proofs.BatchLaws.{length_listed}
use Rattle.loc_batch.proofs.StageLaws.{writing_begin, writing_end, writing_sound, writing_slot, writing_row, writing_checkpoint, writing_turn}
use Rattle.loc_batch.specs.Lists.{entry_at, as_entry}
use Rattle.loc_batch.proofs.staging.write_records.Goals as goal

pub loop-i-init : goal.loop-i-init
loop-i-init c = writing_begin _ _ _ _ _ c.requires.room

pub write_slot-slot_to-requires : goal.write_slot-slot_to-requires
unfolding as_entry
write_slot-slot_to-requires c = (writing_slot _ _ _ _ _ _ _ _ c.loop-i.invariant c.loop-i-test.true _ c.record_at-e.ensures _ refl, (writing_sound _ _ _ _ _ _ _ _ c.loop-i.invariant c.loop-i-test.true _ c.record_at-e.ensures _ refl).fits)

pub write_row-row_to-requires : goal.write_row-row_to-requires
write_row-row_to-requires c = (writing_row _ _ _ _ _ _ _ _ c.loop-i.invariant c.loop-i-test.true _ c.record_at-e.ensures _ refl, writing_sound _ _ _ _ _ _ _ _ c.loop-i.invariant c.loop-i-test.true _ c.record_at-e.ensures _ refl)

pub write_checkpoint-checkpoint_to-requires : goal.write_checkpoint-checkpoint_to-requires
write_checkpoint-checkpoint_to-requires c = writing_checkpoint _ _ _ _ _ _ _ _ c.loop-i.invariant c.loop-i-test.true _ c.record_at-e.ensures _ refl

pub overflow_add-id : goal.overflow_add-id
overflow_add-id c = omega (arith, c.requires.room.in_numbers, length_listed (entry_at c.args.kind (lists c.args.b)) 0 (length c.args.b.lens.now))

pub overflow_add-id-in-loop-i : goal.overflow_add-id-in-loop-i
overflow_add-id-in-loop-i c = omega (arith, c.requires.room.in_numbers, length_listed (entry_at c.args.kind (lists c.args.b)) 0 (length c.args.b.lens.now))

pub loop-i-preserved : goal.loop-i-preserved
loop-i-preserved c = writing_turn _ _ _ _ _ _ _ _ c.loop-i.invariant c.loop-i-test.true _ c.record_at-e.ensures _ refl _ _ (c.write_slot-slot_to.ensures 0) c.write_row-row_to.ensures c.write_checkpoint-checkpoint_to.ensures

pub returns : goal.returns
returns c = writing_end _ _ _ _ _ _ _ _ c.loop-i.invariant c.loop-i-test.false
