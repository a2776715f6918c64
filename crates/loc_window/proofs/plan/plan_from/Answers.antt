-- `loc_window::plan::plan_from` meets its contract.
-- The invariant: both places are at most as many rows further on as are left.
use mathlib.Core.Path.{refl}
use native.Mathlib.Omega.{arith}
use Rattle.loc_leaf.proofs.RowLaws.{rows_count}
use Rattle.loc_window.proofs.RowsLaws.{few_rows}
use Rattle.loc_window.proofs.PlannedLaws.{few_between, nearing, nearing_next}
use Rattle.loc_window.proofs.plan.plan_from.Goals as goal

pub overflow_sub-count : goal.overflow_sub-count
overflow_sub-count c =
    let w = few_between _ c.requires.0.ascend _ _ _ c.requires.1 c.requires.2 in
    omega (arith, w.0, w.2, c.requires.0.counted, rows_count c.args.kind c.args.rows.now)

pub loop-left-init : goal.loop-left-init
loop-left-init c = (refl, refl, nearing _ _ _ _ _ _ _ c.requires.0 c.requires.1 c.requires.2 c.min-left.ensures)

pub overflow_add-left : goal.overflow_add-left
overflow_add-left c =
    omega (arith, c.loop-left.invariant.2.first_in, c.loop-left-test.true, few_rows c.args.kind c.args.rows.now)

pub loop-left-preserved : goal.loop-left-preserved
loop-left-preserved c =
    let n = c.loop-left.invariant.2 in
    let f = c.advance.ensures in
    let p = c.advance-in-loop-left.ensures in
    (c.loop-left.invariant.0, c.loop-left.invariant.1, nearing_next _ _ _ _ _ _ _ _ _ n f.0 p.0 (omega (arith, f.1, c.loop-left-test.true)) (omega (arith, p.1, c.loop-left-test.true)))
