-- `loc_window::plan::plan_last` meets its contract.
-- The invariant: both places are at most as many rows further on as are left.
use mathlib.Core.Path.{refl}
use native.Mathlib.Omega.{arith}
use Rattle.loc_window.proofs.RowsLaws.{few_rows}
use Rattle.loc_leaf.proofs.QuarterLaws.{near_few, near_one}
use Rattle.loc_window.proofs.PlannedLaws.{nearing_at, nearing_next}
use Rattle.loc_window.proofs.plan.plan_last.Goals as goal

pub loop-init : goal.loop-init
loop-init c = (refl, refl, nearing_at _ _ _ _ _ _ _ (omega arith) c.requires.0)

pub overflow_add-window : goal.overflow_add-window
overflow_add-window c =
    omega (arith, near_few _ _ _ c.passes.ensures, c.loop.invariant.2.first_in, c.loop-test.true, few_rows c.args.kind c.args.rows.now)

pub overflow_add-window-in-loop : goal.overflow_add-window-in-loop
overflow_add-window-in-loop c =
    omega (arith, near_few _ _ _ c.passes-in-loop.ensures, c.loop.invariant.2.past_in, c.loop-test.true, few_rows c.args.kind c.args.rows.now)

pub loop-preserved : goal.loop-preserved
loop-preserved c =
    let n = c.loop.invariant.2 in
    let f = near_one _ _ _ _ (omega (arith, c.loop-test.true)) c.passes.ensures n.first_near in
    let p = near_one _ _ _ _ (omega (arith, c.loop-test.true)) c.passes-in-loop.ensures n.past_near in
    (c.loop.invariant.0, c.loop.invariant.1, nearing_at _ _ _ _ _ _ _ (omega arith) (nearing_next _ _ _ _ _ _ _ _ _ n f.0 p.0 f.1 p.1))
