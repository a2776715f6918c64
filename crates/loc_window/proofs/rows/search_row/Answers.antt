-- `loc_window::rows::search_row` meets its contract.
-- The invariant: the rows before the one that is looked at are numbered below id.
use Rattle.loc_window.proofs.RowsLaws.{below_more, found_row, none_above, none_past}
use Rattle.loc_window.proofs.rows.search_row.Goals as goal

pub loop-row-init : goal.loop-row-init
loop-row-init g c = c.requires.1

pub returns-then-number-id : goal.returns-then-number-id
returns-then-number-id g c =
    let number = rw c.kind_of-kind.ensures at c.row_number-number.ensures in
    found_row _ _ _ _ c.requires.0 _ _ c.loop-row-test.true number c.if-number-id.true

pub returns-then-id-number : goal.returns-then-id-number
returns-then-id-number g c =
    let number = rw c.kind_of-kind.ensures at c.row_number-number.ensures in
    none_above _ _ _ _ c.requires.0 _ c.loop-row.invariant _ number c.if-id-number.true

pub loop-row-preserved : goal.loop-row-preserved
loop-row-preserved g c =
    let number = rw c.kind_of-kind.ensures at c.row_number-number.ensures in
    below_more _ _ _ _ c.requires.0 _ c.loop-row.invariant _ number c.if-number-id.false c.if-id-number.false

pub returns : goal.returns
returns g c = none_past _ _ _ _ c.requires.0 _ c.loop-row.invariant c.loop-row-test.false
