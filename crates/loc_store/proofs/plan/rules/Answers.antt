-- `loc_store::plan::rules` meets its contract.
-- The cut rule is computed for what the checkpoint rule would leave, from the areas as they are.
use borrow.Author.Rules.{rules}
use Rattle.loc_store.proofs.RuleLaws.{rules_are, rules_same}
use Rattle.loc_store.proofs.plan.rules.Goals as goal

pub returns-then-kept-n : goal.returns-then-kept-n
returns-then-kept-n c = search (rules, rules_same)

pub returns : goal.returns
returns c = search (rules, rules_are)
