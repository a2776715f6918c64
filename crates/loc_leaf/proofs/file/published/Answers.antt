-- `file::published` meets its contract.
-- Where the width is 0 there is no piece, and all bytes are left over.
use borrow.Author.Rules.{rules}
use Rattle.loc_leaf.proofs.AreaLaws.{in_pieces}
use Rattle.loc_leaf.proofs.file.published.Goals as goal

pub returns : goal.returns
returns c = search (rules, in_pieces)
