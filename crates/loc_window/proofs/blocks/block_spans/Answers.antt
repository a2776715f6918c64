-- `loc_window::blocks::block_spans` meets its contract.
use borrow.Author.Rules.{rules}
use Rattle.loc_leaf.specs.Slot.{inline}
use Rattle.loc_leaf.specs.Block.{sum_from}
use Rattle.loc_window.proofs.blocks.block_spans.Goals as goal

pub returns-else-this-ne0 : goal.returns-else-this-ne0
-- a single block has no spans
unfolding sum_from inline
returns-else-this-ne0 g c = search rules
