-- `loc_rows::rows_ascend` meets its contract.
use borrow.Author.Rules.{rules}
use Rattle.loc_rows.proofs.ReaderLaws.{rows_ascended}
use Rattle.loc_rows.proofs.rows_ascend.Goals as goal

pub returns : goal.returns
returns c = search (rules, rows_ascended)
