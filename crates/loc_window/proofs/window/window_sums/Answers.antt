-- `loc_window::window::window_sums` meets its contract.
-- The invariant: the sums of the blocks so far, `Summing`.
use Rattle.loc_window.proofs.SummingLaws.{summing_next, summed_all, summed_lack}
use Rattle.loc_window.proofs.window.window_sums.Goals as goal

pub loop-s-init : goal.loop-s-init
loop-s-init c = c.requires.1

pub loop-s-preserved : goal.loop-s-preserved
loop-s-preserved c =
    summing_next _ _ _ _ _ _ _ _ _ _ _ _ _ c.loop-s.invariant _ _ _ _ c.slot_step.ensures c.in_ok-s.was c.slot_step.auto.body c.slot_step.auto.span

pub returns-in_err-s : goal.returns-in_err-s
returns-in_err-s c = rw c.from_residual.ensures (summed_lack _ _ _ _ _ _ _ _ _ _ _ c.slot_step.ensures c.in_err-s.was)

pub returns : goal.returns
returns c = summed_all _ _ _ _ _ _ _ _ _ _ _ _ _ c.loop-s.invariant c.loop-s-test.false
