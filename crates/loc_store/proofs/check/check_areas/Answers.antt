-- `loc_store::check::check_areas` meets its contract.
use borrow.Author.Rules.{rules}
use Rattle.loc_store.proofs.SettledLaws.{not_small}
use Rattle.loc_store.proofs.check.check_areas.Goals as goal

pub settled-requires : goal.settled-requires
settled-requires c = search (rules, not_small)
