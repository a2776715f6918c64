-- `loc_parts::pass::composites_to` meets its contract.
-- The invariant of both loops: how many there are is at most as many places further on as are left.
use Rattle.std.proofs.Common.{◌+◌, ◌-◌, ◌≤◌}
use Rattle.loc_leaf.specs.Quarters.{Near}
use Rattle.loc_parts.specs.Pass.{composites_to}
use Rattle.loc_parts.proofs.pass.composites_to.Given as goal

abbrev pub invariant-loop-left : goal.invariant-loop-left
invariant-loop-left l =
    Near l.at l.left (composites_to l.composites l.y l.end) × (l.at + l.left ≤ l.end)

abbrev pub decreases-loop-left : goal.decreases-loop-left
decreases-loop-left l = l.left

abbrev pub invariant-loop : goal.invariant-loop
invariant-loop l =
    Near l.at (l.left - l.counter) (composites_to l.composites l.y l.end) × (l.at + (l.left - l.counter) ≤ l.end)
