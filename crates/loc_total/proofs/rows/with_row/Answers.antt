-- `loc_total::rows::with_row` meets its contract.
-- The row is record id − first − 1 of the window.
use native.Mathlib.Omega.{arith}
use Rattle.loc_total.proofs.TotalLaws.{row_outside, row_unneeded, row_held, row_placed}
use Rattle.loc_total.proofs.rows.with_row.Goals as goal

pub returns-then-p-j : goal.returns-then-p-j
returns-then-p-j c = row_outside _ _ _ _ _ _ c.requires.rows_ready.0.rise _ _ _ c.requires.row_bound.0 c.requires.row_bound.1 c.requires.row_bound.2 c.requires.rows_ready.1 c.if-p-j.true

pub overflow_sub-result : goal.overflow_sub-result
overflow_sub-result c =
    (row_held _ _ _ _ _ _ c.requires.rows_ready.0.rise _ _ _ c.requires.row_bound.0 c.requires.row_bound.1 c.requires.row_bound.2 c.requires.rows_ready.1 _ c.needs_row.ensures (omega (arith, c.if-p-j.false)) c.if-not-needs_row.false _ _ c.inline_value-s.ensures c.row_value_at-v.ensures.0).0

pub overflow_sub-result-2 : goal.overflow_sub-result-2
overflow_sub-result-2 c =
    (row_held _ _ _ _ _ _ c.requires.rows_ready.0.rise _ _ _ c.requires.row_bound.0 c.requires.row_bound.1 c.requires.row_bound.2 c.requires.rows_ready.1 _ c.needs_row.ensures (omega (arith, c.if-p-j.false)) c.if-not-needs_row.false _ _ c.inline_value-s.ensures c.row_value_at-v.ensures.0).1

pub overflow_sub-result-3 : goal.overflow_sub-result-3
overflow_sub-result-3 c =
    (row_held _ _ _ _ _ _ c.requires.rows_ready.0.rise _ _ _ c.requires.row_bound.0 c.requires.row_bound.1 c.requires.row_bound.2 c.requires.rows_ready.1 _ c.needs_row.ensures (omega (arith, c.if-p-j.false)) c.if-not-needs_row.false _ _ c.inline_value-s.ensures c.row_value_at-v.ensures.0).2

pub returns : goal.returns
returns c =
    row_placed _ _ _ _ _ _ c.requires.rows_ready.0.rise _ _ _ c.requires.row_bound.0 c.requires.row_bound.1 c.requires.row_bound.2 c.requires.rows_ready.1 _ c.needs_row.ensures (omega (arith, c.if-p-j.false)) c.if-not-needs_row.false _ _ c.inline_value-s.ensures c.row_value_at-v.ensures.0 _ _ _ c.row_value_at-v.ensures.1 c.row_value_at-v.ensures.2 (omega arith) (omega arith) (omega arith)

pub returns-then-not-needs_row : goal.returns-then-not-needs_row
returns-then-not-needs_row c = row_unneeded _ _ _ _ _ _ c.requires.rows_ready.0.rise _ _ _ c.requires.row_bound.0 c.requires.row_bound.1 c.requires.row_bound.2 c.requires.rows_ready.1 _ c.needs_row.ensures c.if-not-needs_row.true
