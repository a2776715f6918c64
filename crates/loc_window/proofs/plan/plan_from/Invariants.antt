-- `loc_window::plan::plan_from` meets its contract.
-- The invariant: both places are at most as many rows further on as are left.
use mathlib.Core.Path.{◌≡◌}
use Rattle.loc_window.specs.Planned.{Nearing}
use Rattle.loc_window.proofs.plan.plan_from.Given as goal

abbrev pub invariant-loop-left : goal.invariant-loop-left
invariant-loop-left l = (l.window.base ≡ l.base) × (l.window.m ≡ l.m) × Nearing l.kind l.rows l.base l.window.first l.window.past l.left

abbrev pub decreases-loop-left : goal.decreases-loop-left
decreases-loop-left l = l.left
