-- `loc_audit::pass::checkpoint_is` meets its contract.
use borrow.Author.Rules.{rules}
use Rattle.loc_audit.proofs.StepLaws.{paired_span, paired_body, single_body}
use Rattle.loc_audit.proofs.pass.checkpoint_is.Goals as goal

pub returns-then-u64_at-e : goal.returns-then-u64_at-e
returns-then-u64_at-e c = search (rules, paired_span)

pub returns-else-u64_at-e : goal.returns-else-u64_at-e
returns-else-u64_at-e c = search (rules, paired_body)

pub returns-in-Single : goal.returns-in-Single
returns-in-Single c = search (rules, single_body)
