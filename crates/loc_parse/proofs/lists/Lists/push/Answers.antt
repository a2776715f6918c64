-- `loc_parse::lists::Lists::push` meets its contract.
use borrow.Author.Rules.{rules}
use Rattle.loc_parse.proofs.ListLaws.{one_more}
use Rattle.loc_parse.proofs.lists.Lists.push.Goals as goal

pub returns : goal.returns
returns c = search (rules, one_more)
