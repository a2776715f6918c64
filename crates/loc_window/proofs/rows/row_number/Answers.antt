-- `loc_window::rows::row_number` meets its contract.
use native.Mathlib.Omega.{arith}
use Rattle.loc_window.proofs.RowsLaws.{row_ends, word_number}
use Rattle.loc_window.proofs.rows.row_number.Goals as goal

pub overflow_mul-row_width : goal.overflow_mul-row_width
overflow_mul-row_width c = omega (arith, row_ends c.args.kind c.args.rows.now c.args.row c.requires _ c.row_width.ensures.0)

pub overflow_add-row_width : goal.overflow_add-row_width
overflow_add-row_width c = omega (arith, row_ends c.args.kind c.args.rows.now c.args.row c.requires _ c.row_width.ensures.0)

pub word_at-requires : goal.word_at-requires
word_at-requires c = omega (arith, row_ends c.args.kind c.args.rows.now c.args.row c.requires _ c.row_width.ensures.0, c.row_width.ensures.1)

pub returns : goal.returns
returns c = word_number c.args.kind c.args.rows.now c.args.row c.requires _ _ c.row_width.ensures.0 c.row_width.ensures.1 (omega arith) c.word_at.ensures
