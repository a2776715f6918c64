-- `loc_rows::RowReader::here` meets its contract.
use borrow.Author.Rules.{rules}
use Rattle.loc_rows.proofs.ReaderLaws.{row_short, row_past, row_there}
use Rattle.loc_rows.proofs.RowReader.here.Goals as goal
use Rattle.loc_rows.proofs.RowReader.here.Goals.{then-self-via-then-self, then-self-via-else-self+then-self-2}

pub returns-then-self : goal.returns-then-self
returns-then-self c =
    elim c.then-self.branch
    [ then-self-via-then-self w ↦ search (rules, row_short) | then-self-via-else-self+then-self-2 w ↦ search (rules, row_past) ]

pub returns : goal.returns
returns c = search (rules, row_there)
