-- `loc_runs::runs::one_window` meets its contract.
-- The invariant is `Sweep`: the numbers so far lie in the first one's window.
use Rattle.loc_runs.proofs.RunLaws.{Sweep}
use Rattle.loc_runs.proofs.runs.one_window.Given as goal

abbrev pub invariant-loop-id : goal.invariant-loop-id
invariant-loop-id l = Sweep l.kind l.count l.wanted l.w l.most l.mark l.id-index
