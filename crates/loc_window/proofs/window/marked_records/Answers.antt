-- `loc_window::window::marked_records` meets its contract.
use native.Mathlib.Omega.{arith}
use Rattle.loc_window.proofs.StepLaws.{step_arm}
use Rattle.loc_window.proofs.window.marked_records.Goals as goal

pub returns-in-Paired : goal.returns-in-Paired
returns-in-Paired c =
    step_arm _ _ _ _ _ _ _ c.in-Paired.is _ _ _ _ _ _ c.records.new.body c.records.new.span c.records.result c.requires.sums_stored c.marked_end-end.ensures.0 (omega (arith, c.marked_end-end.ensures.1)) c.min-n.ensures c.records.ensures

pub returns-in-Single : goal.returns-in-Single
returns-in-Single c =
    step_arm _ _ _ _ _ _ _ c.in-Single.is _ _ _ _ _ _ c.records-in-Single.new.body c.records-in-Single.new.span c.records-in-Single.result c.requires.sums_stored c.marked_end-end.ensures.0 (omega (arith, c.marked_end-end.ensures.1)) c.min-n.ensures c.records-in-Single.ensures
