-- `loc_parts::check::pairs_refusal` meets its contract.
use Rattle.std.proofs.Common.{rules}
use Rattle.loc_parts.proofs.FaultLaws.{refuses_7, refuses_15, refuses_27, refuses_pairs}
use Rattle.loc_parts.proofs.check.pairs_refusal.Goals as goal

pub returns-then-pairs : goal.returns-then-pairs
returns-then-pairs c = search (rules, refuses_7)

pub returns-then-pairs-gt1024 : goal.returns-then-pairs-gt1024
returns-then-pairs-gt1024 c = search (rules, refuses_15)

pub returns-then-not-in_range : goal.returns-then-not-in_range
returns-then-not-in_range c = search (rules, refuses_27)

pub returns : goal.returns
returns c = search (rules, refuses_pairs)
