-- `loc_end::start::check_start` meets its contract.
-- A law for each way through it.
use Rattle.std.proofs.lemmas.Result.{err_from_is_err_and}
use Rattle.loc_end.proofs.StartLaws.{start_17, start_23, start_24, start_0}
use Rattle.loc_end.proofs.start.check_start.Goals as goal

pub returns-in_err-end : goal.returns-in_err-end
returns-in_err-end c =
    let p = err_from_is_err_and c.from_residual.result c.from_residual.ensures.1 in
    λ e _ _. rw (p.1, p.2) (start_17 _ _ e _ c.in_err-end.ensures.number)

pub returns-then-start-end : goal.returns-then-start-end
returns-then-start-end c = λ e p q. start_23 _ _ e _ c.in_ok-end.ensures _ _ p q c.if-start-end.true

pub returns-then-span_start-end : goal.returns-then-span_start-end
returns-then-span_start-end c = λ e p q. start_24 _ _ e _ c.in_ok-end.ensures _ _ p q c.if-start-end.false c.if-span_start-end.true

pub returns : goal.returns
returns c = λ e p q. start_0 _ _ e _ c.in_ok-end.ensures _ _ p q c.if-start-end.false c.if-span_start-end.false
