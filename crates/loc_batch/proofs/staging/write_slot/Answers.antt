-- `staging::write_slot` meets its contract.
use native.Mathlib.Omega.{arith}
use mathlib.Core.Path.{ap}
use lib.ListN.{length}
use Rattle.loc_leaf.proofs.ValueLaws.{length_slot}
use Rattle.loc_batch.proofs.StageLaws.{slot_written}
use Rattle.loc_batch.proofs.staging.write_slot.Goals as goal

pub put-requires : goal.put-requires
put-requires c = omega (arith, ap length c.pack.ensures, length_slot c.args.kind c.value.result)

pub returns : goal.returns
returns c = λ id. slot_written _ id _ _ c.value.ensures _ c.args.to _ (rw (← c.pack.ensures) c.put.ensures)
