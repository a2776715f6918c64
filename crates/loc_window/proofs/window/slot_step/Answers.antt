-- `loc_window::window::slot_step` meets its contract.
use Rattle.loc_window.proofs.StepLaws.{passed_lack}
use Rattle.loc_window.proofs.window.slot_step.Goals as goal

pub returns-in_err-t : goal.returns-in_err-t
returns-in_err-t c = rw c.from_residual.ensures (passed_lack _ _ _ _ _ _ _ _ _ c.in_err-t.was c.blocks-2.ensures)
