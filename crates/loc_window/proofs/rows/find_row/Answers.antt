-- `loc_window::rows::find_row` meets its contract.
use Rattle.loc_window.proofs.RowsLaws.{found_row}
use Rattle.loc_window.proofs.rows.find_row.Goals as goal

pub returns-then-row_number-id : goal.returns-then-row_number-id
returns-then-row_number-id g c =
    let number = rw c.kind_of.ensures at c.row_number.ensures in
    found_row _ _ _ _ c.requires.0 _ _ c.if-passed-w.true number c.if-row_number-id.true
