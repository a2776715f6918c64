-- `staging::write_row` meets its contract.
use native.Mathlib.Omega.{arith}
use Rattle.loc_batch.specs.Lists.{as_entry}
use Rattle.loc_batch.proofs.StageLaws.{row_room, row_written, row_passed}
use Rattle.loc_batch.proofs.staging.write_row.Goals as goal

pub value-v-requires : goal.value-v-requires
unfolding as_entry
value-v-requires c = c.requires.1.fits

pub returns-then-not-is_stored_as_zero : goal.returns-then-not-is_stored_as_zero
unfolding as_entry
returns-then-not-is_stored_as_zero c = row_passed _ _ _ c.requires.1 (omega arith) _ c.value-v.ensures _ c.is_stored_as_zero.ensures _ c.if-not-is_stored_as_zero.true _

pub put_row-requires : goal.put_row-requires
unfolding as_entry
put_row-requires c = row_room _ _ _ c.requires.1 (omega arith) _ c.value-v.ensures _ c.is_stored_as_zero.ensures _ c.if-not-is_stored_as_zero.false _ c.requires.0

pub returns : goal.returns
unfolding as_entry
returns c = row_written _ _ _ c.requires.1 (omega arith) _ c.value-v.ensures _ c.is_stored_as_zero.ensures _ c.if-not-is_stored_as_zero.false _ _ _ c.put_row.ensures c.row_width.ensures.0
