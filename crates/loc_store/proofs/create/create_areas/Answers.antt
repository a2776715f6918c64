-- `loc_store::create::create_areas` meets its contract.
-- A refusal leaves the areas, and the three stores are the run over all places of a creation.
use borrow.Author.Rules.{rules}
use Rattle.loc_store.proofs.CallLaws.{create_small, create_done}
use Rattle.loc_store.proofs.create.create_areas.Goals as goal

pub returns-then-too_small : goal.returns-then-too_small
returns-then-too_small c = search (rules, create_small)

pub returns : goal.returns
returns c = search (rules, create_done)
