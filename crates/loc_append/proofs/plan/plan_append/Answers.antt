-- `plan::plan_append` meets its contract.
-- A law for each way through the tests.
use native.Mathlib.Omega.{arith}
use Rattle.std.proofs.lemmas.Result.{err_from_is_err_and}
use Rattle.loc_append.proofs.PlanLaws.{plan_empty, plan_refused, plan_reached, plan_uneven}
use Rattle.loc_append.proofs.plan.plan_append.Goals as goal

pub returns-then-not-lists_agree : goal.returns-then-not-lists_agree
returns-then-not-lists_agree c = plan_uneven _ _ _ _ c.lists_agree.ensures c.if-not-lists_agree.true

pub returns-then-n-eq0 : goal.returns-then-n-eq0
returns-then-n-eq0 c = plan_empty _ _ _ _ c.lists_agree.ensures c.if-not-lists_agree.false _ c.requires.found c.if-n-eq0.true (omega arith)

pub returns-in_err-with_rows : goal.returns-in_err-with_rows
returns-in_err-with_rows c =
    let p = err_from_is_err_and c.from_residual.result c.from_residual.ensures.1 in
    rw (p.1, p.2) (plan_refused _ _ _ _ c.lists_agree.ensures c.if-not-lists_agree.false _ c.requires.found c.if-n-eq0.false _ c.in_err-with_rows.ensures)

pub returns : goal.returns
returns c = plan_reached _ _ _ _ c.lists_agree.ensures c.if-not-lists_agree.false _ c.requires.found c.if-n-eq0.false _ c.in_ok-with_rows.ensures _ c.reach.ensures
