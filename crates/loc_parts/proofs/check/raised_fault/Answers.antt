-- `loc_parts::check::raised_fault` meets its contract.
use Rattle.std.proofs.Common.{arith}
use Rattle.std.proofs.lemmas.Bool.Decides.{nat_tests}
use Rattle.loc_calls.specs.Parts.{strange}
use Rattle.loc_calls.specs.Reading.{within}
use Rattle.loc_parts.proofs.check.raised_fault.Goals as goal

pub returns-then-count-p : goal.returns-then-count-p
unfolding strange within
returns-then-count-p c = grind (arith, nat_tests)

pub returns-else-count-p : goal.returns-else-count-p
unfolding strange within
returns-else-count-p c = grind (arith, nat_tests)
