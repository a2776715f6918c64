-- `loc_audit::pass::slot_says` meets its contract.
use borrow.Author.Rules.{rules}
use Rattle.loc_audit.proofs.StepLaws.{says_row, says_inline}
use Rattle.loc_audit.proofs.pass.slot_says.Goals as goal

pub returns-in-Some : goal.returns-in-Some
returns-in-Some c = search (rules, says_row)

pub returns-in-None : goal.returns-in-None
returns-in-None c = search (rules, says_inline)
