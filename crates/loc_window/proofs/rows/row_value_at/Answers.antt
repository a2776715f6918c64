-- `loc_window::rows::row_value_at` meets its contract.
use mathlib.Core.Path.{sym, ap}
use native.Mathlib.Omega.{arith}
use Rattle.loc_leaf.specs.Kind.{row_width}
use Rattle.loc_window.proofs.RowsLaws.{row_ends, value_read_paired, value_read_single}
use Rattle.loc_window.proofs.rows.row_value_at.Goals as goal

pub overflow_mul-row : goal.overflow_mul-row
overflow_mul-row c = omega (arith, row_ends c.args.kind c.args.rows.now c.args.row c.requires 16 (sym (ap row_width c.in-Paired.is)))

pub overflow_add-row : goal.overflow_add-row
overflow_add-row c = omega (arith, row_ends c.args.kind c.args.rows.now c.args.row c.requires 16 (sym (ap row_width c.in-Paired.is)))

pub half_at-requires : goal.half_at-requires
half_at-requires c = omega (arith, row_ends c.args.kind c.args.rows.now c.args.row c.requires 16 (sym (ap row_width c.in-Paired.is)))

pub overflow_mul-row-in-Paired : goal.overflow_mul-row-in-Paired
overflow_mul-row-in-Paired c = omega (arith, row_ends c.args.kind c.args.rows.now c.args.row c.requires 16 (sym (ap row_width c.in-Paired.is)))

pub overflow_add-row-in-Paired : goal.overflow_add-row-in-Paired
overflow_add-row-in-Paired c = omega (arith, row_ends c.args.kind c.args.rows.now c.args.row c.requires 16 (sym (ap row_width c.in-Paired.is)))

pub half_at-requires-in-Paired : goal.half_at-requires-in-Paired
half_at-requires-in-Paired c = omega (arith, row_ends c.args.kind c.args.rows.now c.args.row c.requires 16 (sym (ap row_width c.in-Paired.is)))

pub overflow_mul-row-in-Single : goal.overflow_mul-row-in-Single
overflow_mul-row-in-Single c = omega (arith, row_ends c.args.kind c.args.rows.now c.args.row c.requires 12 (sym (ap row_width c.in-Single.is)))

pub overflow_add-row-in-Single : goal.overflow_add-row-in-Single
overflow_add-row-in-Single c = omega (arith, row_ends c.args.kind c.args.rows.now c.args.row c.requires 12 (sym (ap row_width c.in-Single.is)))

pub half_at-requires-in-Single : goal.half_at-requires-in-Single
half_at-requires-in-Single c = omega (arith, row_ends c.args.kind c.args.rows.now c.args.row c.requires 12 (sym (ap row_width c.in-Single.is)))

pub returns-in-Paired : goal.returns-in-Paired
returns-in-Paired c = (value_read_paired c.args.kind c.args.rows.now c.args.row c.requires _ _ c.in-Paired.is c.half_at.ensures c.half_at-in-Paired.ensures, omega arith, omega arith)

pub returns-in-Single : goal.returns-in-Single
returns-in-Single c = (value_read_single c.args.kind c.args.rows.now c.args.row c.requires _ c.in-Single.is c.half_at-in-Single.ensures, omega arith, omega arith)
