-- `batch::check_batch` meets its contract.
use borrow.Author.Rules.{rules}
use Rattle.std.proofs.lemmas.Result.{err_from_is_err_and}
use Rattle.loc_batch.proofs.BatchLaws.{left_sound, passed_begin, passed_turn, passed_refused, last_refused, last_passed}
use Rattle.loc_batch.proofs.batch.check_batch.Goals as goal

pub loop-i-init : goal.loop-i-init
loop-i-init c = search (rules, passed_begin)

pub returns-in_err-check_before : goal.returns-in_err-check_before
returns-in_err-check_before c =
    let p = err_from_is_err_and c.from_residual.result c.from_residual.ensures.1 in
    rw (p.1, p.2) (passed_refused _ _ _ _ _ _ c.loop-i.invariant c.loop-i-test.true _ c.record_at-next.ensures _ c.in_err-check_before.ensures)

pub rows_of-rows-requires : goal.rows_of-rows-requires
rows_of-rows-requires c = search (rules, left_sound)

pub loop-i-preserved : goal.loop-i-preserved
loop-i-preserved c = passed_turn _ _ _ _ _ _ c.loop-i.invariant c.loop-i-test.true _ c.record_at-next.ensures c.in_ok-check_before.ensures _ c.rows_of-rows.ensures.0

pub returns-in_err-check_alone : goal.returns-in_err-check_alone
returns-in_err-check_alone c =
    let p = err_from_is_err_and c.from_residual-in_err-check_alone.result c.from_residual-in_err-check_alone.ensures.1 in
    rw (p.1, p.2) (last_refused _ _ _ _ _ _ c.loop-i.invariant c.loop-i-test.false _ c.in_err-check_alone.ensures)

pub rows_of-requires : goal.rows_of-requires
rows_of-requires c = search (rules, left_sound)

pub returns : goal.returns
returns c = last_passed _ _ _ _ _ _ c.loop-i.invariant c.loop-i-test.false c.in_ok-check_alone.ensures _ c.rows_of.ensures.0
