-- `plan::check_append` meets its contract.
-- The tests of the first starts come before those of the records.
use Rattle.std.proofs.lemmas.Result.{err_from_is_err_and}
use Rattle.loc_append.proofs.PlanLaws.{start_refused, start_passed}
use Rattle.loc_append.proofs.plan.check_append.Goals as goal

pub returns-in_err-check_start : goal.returns-in_err-check_start
returns-in_err-check_start c =
    let p = err_from_is_err_and c.from_residual.result c.from_residual.ensures.1 in
    rw (p.1, p.2) (start_refused _ _ _ _ c.record_at-e.ensures _ c.in_err-check_start.ensures)

pub returns : goal.returns
returns c = start_passed _ _ _ _ c.record_at-e.ensures c.in_ok-check_start.ensures _ c.check_batch.ensures
