-- `loc_runs::runs::looked_at` meets its contract.
use Rattle.std.proofs.Common.{arith, rules}
use Rattle.loc_calls.specs.Reading.{looked_at}
use Rattle.loc_runs.proofs.runs.looked_at.Goals as goal

pub returns-in-Paired : goal.returns-in-Paired
unfolding looked_at
returns-in-Paired c = rw c.in-Paired.is (omega arith)

pub returns-in-Single : goal.returns-in-Single
unfolding looked_at
returns-in-Single c = rw c.in-Single.is (search rules)
