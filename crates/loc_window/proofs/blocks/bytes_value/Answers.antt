-- `loc_window::blocks::bytes_value` meets its contract.
use borrow.Author.Rules.{rules}
use Rattle.loc_leaf.specs.Slot.{inline}
use Rattle.loc_window.proofs.BlocksLaws.{single_empty}
use Rattle.loc_window.proofs.blocks.bytes_value.Goals as goal

pub returns-then-this-ne0 : goal.returns-then-this-ne0
unfolding inline
returns-then-this-ne0 g c = search rules

pub returns-else-this-ne0 : goal.returns-else-this-ne0
returns-else-this-ne0 g c = search (rules, single_empty)
