-- `loc_store::store::store_rules` meets its contract.
-- The run over three places, then the run over those past them.
use borrow.Author.Rules.{rules}
use Rattle.loc_store.proofs.StoreLaws.{rules_run}
use Rattle.loc_store.proofs.store.store_rules.Goals as goal

pub returns : goal.returns
returns c = search (rules, rules_run)
