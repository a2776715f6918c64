-- `loc_window::records::one_more` meets its contract.
use mathlib.Core.Path.{refl}
use native.Mathlib.Omega.{arith}
use Rattle.loc_window.proofs.RecordLaws.{more_inline, more_row, more_none}
use Rattle.loc_window.proofs.records.one_more.Goals as goal

pub returns-in_err-row : goal.returns-in_err-row
returns-in_err-row g c =
    let needs = rw c.kind_of-kind.ensures at c.needs_row.ensures in
    rw c.from_residual.ensures (more_none _ _ _ _ _ _ c.args.s _ needs c.if-needs_row.true refl c.args.w.now.past c.in_err-row.ensures)

pub returns-then-needs_row : goal.returns-then-needs_row
returns-then-needs_row g c =
    let needs = rw c.kind_of-kind.ensures at c.needs_row.ensures in
    let value = rw c.kind_of-kind.ensures at c.row_value_at.ensures.0 in
    more_row _ _ _ _ _ _ c.args.s _ needs c.if-needs_row.true refl c.args.w.now.past c.in_ok-row.row c.plus.result c.row_value_at.result c.in_ok-row.ensures value c.row_value_at.ensures.1 c.row_value_at.ensures.2 c.plus.ensures c.requires.after

pub returns : goal.returns
returns g c =
    let needs = rw c.kind_of-kind.ensures at c.needs_row.ensures in
    let value = rw c.kind_of-kind.ensures at c.inline_value.ensures in
    more_inline _ _ _ _ _ c.args.s c.plus-2.result _ c.inline_value.result needs c.if-needs_row.false value (omega arith) (omega arith) c.plus-2.ensures c.requires.after
