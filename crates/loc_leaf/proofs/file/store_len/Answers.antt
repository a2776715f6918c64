-- `file::store_len` meets its contract.
use borrow.Author.Rules.{rules}
use Rattle.loc_leaf.specs.Area.{store_length}
use Rattle.loc_leaf.proofs.file.store_len.Goals as goal

pub returns : goal.returns
unfolding store_length
returns c = search rules
