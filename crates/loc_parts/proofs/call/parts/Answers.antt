-- `loc_parts::call::parts` meets its contract.
-- A law for each way through the tests.
use Rattle.std.proofs.Common.{arith}
use Rattle.std.proofs.lemmas.Result.{err_from_is_err_and}
use Rattle.loc_parts.proofs.PutLaws.{parts_first, parts_late, tested_fit, parts_done}
use Rattle.loc_parts.proofs.call.parts.Goals as goal

pub returns-in_err-found : goal.returns-in_err-found
returns-in_err-found c =
    let e = err_from_is_err_and c.from_residual.result c.from_residual.ensures.1 in
    rw (e.1, e.2) (parts_first _ _ _ _ _ _ c.in_err-found.ensures.number)

pub returns-in_err-pairs_refusal : goal.returns-in_err-pairs_refusal
returns-in_err-pairs_refusal c =
    let r = c.from_residual-in_err-pairs_refusal in
    let e = err_from_is_err_and r.result r.ensures.1 in
    rw (e.1, e.2) (parts_late _ _ _ _ _ c.in_ok-found.ensures.number _ c.in_ok-found.ensures.found.count _ c.in_err-pairs_refusal.ensures)

pub put_in-requires : goal.put_in-requires
put_in-requires c =
    (tested_fit _ _ _ _ c.in_ok-pairs_refusal.ensures, omega arith, omega arith, omega arith)

pub returns-then-composites-le64 : goal.returns-then-composites-le64
returns-then-composites-le64 c = parts_done _ _ _ _ _ c.in_ok-found.ensures.number _ c.in_ok-found.ensures.found.count c.in_ok-pairs_refusal.ensures _ _ c.put_in.ensures

pub put_in-requires-2 : goal.put_in-requires-2
put_in-requires-2 c =
    let fit = tested_fit _ _ _ _ c.in_ok-pairs_refusal.ensures in
    (fit, omega (arith, fit.few), omega arith, omega arith)

pub returns : goal.returns
returns c = parts_done _ _ _ _ _ c.in_ok-found.ensures.number _ c.in_ok-found.ensures.found.count c.in_ok-pairs_refusal.ensures _ _ c.put_in-2.ensures
