-- `loc_window::rows::search_row` meets its contract.
-- The invariant: the rows before the one that is looked at are numbered below id.
use Rattle.std.specs.Prelude.{not, eqb}
use Rattle.loc_leaf.specs.Rows.{row_list}
use Rattle.loc_window.specs.Window.{kind_of, Below}
use Rattle.loc_window.proofs.rows.search_row.Given as goal

abbrev pub invariant-loop-row : goal.invariant-loop-row
invariant-loop-row g l = Below (row_list (kind_of (not (eqb g.row.PAIRED 0))) l.w.rows.now) l.row l.id
