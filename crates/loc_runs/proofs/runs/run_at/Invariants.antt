-- `loc_runs::runs::run_at` meets its contract.
use Rattle.loc_runs.specs.Runs.{IsRun}
use Rattle.loc_runs.proofs.runs.run_at.Given as goal

abbrev pub invariant-loop-end : goal.invariant-loop-end
invariant-loop-end l = IsRun l.kind l.count l.wanted l.keys l.from l.end l.m l.stamp l.mark
