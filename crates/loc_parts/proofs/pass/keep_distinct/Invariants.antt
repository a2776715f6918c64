-- `loc_parts::pass::keep_distinct` meets its contract.
-- The invariant is `Keeping`: of the numbers that are passed r are kept, `last` last.
use Rattle.loc_parts.proofs.DistinctLaws.{Keeping}
use Rattle.loc_parts.proofs.pass.keep_distinct.Given as goal

abbrev pub invariant-loop-y : goal.invariant-loop-y
invariant-loop-y l = Keeping l.src l.out l.r l.last l.y-index
