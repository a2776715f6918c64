-- `loc_parts::pass::walk` meets its contract.
-- The invariant is `Walking`, of the components at the end of the stage.
use Rattle.std.proofs.Common.{◌≤◌, length, drop}
use Rattle.loc_parts.specs.Pass.{Walking}
use Rattle.loc_parts.proofs.pass.walk.Given as goal

abbrev pub invariant-loop-i : goal.invariant-loop-i
invariant-loop-i l =
    (l.i ≤ l.s) × (l.s ≤ length l.stage) × Walking l.pairs.composites.now l.pairs.components.now l.record l.marks l.seen (drop l.s l.stage) l.i
