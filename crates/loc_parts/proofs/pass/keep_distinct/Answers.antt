-- `loc_parts::pass::keep_distinct` meets its contract.
-- The invariant is `Keeping`: of the numbers that are passed r are kept, `last` last.
use Rattle.std.proofs.Common.{arith, rules}
use Rattle.loc_parts.proofs.DistinctLaws.{keeping_more, keeping_same, keeping_few, keeping_ends}
use Rattle.loc_parts.proofs.pass.keep_distinct.Goals as goal
use Rattle.loc_parts.proofs.pass.keep_distinct.Goals.{then-y-last, else-y-last}

pub loop-y-preserved : goal.loop-y-preserved
loop-y-preserved c =
    elim c.if-y-last.branch [
      | then-y-last w ↦ rw (w.out-is, w.r-is, w.last-is) (keeping_more _ _ _ _ _ c.loop-y.invariant c.loop-y-test.true w.if-y-last.true (omega arith))
      | else-y-last w ↦ rw (w.out-is, w.r-is, w.last-is) (keeping_same _ _ _ _ _ c.loop-y.invariant c.loop-y-test.true w.if-y-last.false)
    ]

pub returns : goal.returns
returns c = (search (rules, keeping_few), search (rules, keeping_ends))
