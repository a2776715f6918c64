-- `loc_parts::check::least_fault` meets its contract.
use Rattle.std.proofs.Common.{ap, arith}
use Rattle.loc_leaf.specs.Answers.{number_of, refusal_of}
use Rattle.loc_leaf.proofs.Refusals.{number_some}
use Rattle.loc_parts.proofs.FaultLaws.{least_second, least_both}
use Rattle.loc_parts.proofs.check.least_fault.Goals as goal

pub returns-in-Ok : goal.returns-in-Ok
returns-in-Ok c = least_second _ _ (number_some c.args.r) (ap refusal_of c.in-Ok.is)

pub returns-then-new-old : goal.returns-then-new-old
returns-then-new-old c =
    rw c.in-Err.is (least_both (number_of c.in-Err.x) (number_of c.args.r) _ (number_some c.args.r) (number_some c.in-Err.x) (omega arith))

pub returns-else-new-old : goal.returns-else-new-old
returns-else-new-old c =
    rw c.in-Err.is (least_both (number_of c.in-Err.x) (number_of c.args.r) _ (number_some c.args.r) (number_some c.in-Err.x) (omega arith))
