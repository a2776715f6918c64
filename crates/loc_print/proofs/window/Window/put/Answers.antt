-- `loc_print::window::Window::put` meets its contract.
use mathlib.Core.Path.{◌≡◌, refl}
use native.Mathlib.Omega.{arith}
use lib.ListN.{length-set}
use Rattle.std.proofs.lemmas.Result.{err_from_is_err_and}
use Rattle.loc_print.specs.Printed.{numbers_after}
use Rattle.loc_print.proofs.ReadingLaws.{numbers_more}
use Rattle.loc_print.proofs.WindowLaws.{read_number, window_read}
use Rattle.loc_print.proofs.window.Window.put.Goals as goal

pub loop-i-init : goal.loop-i-init
loop-i-init c = (unfold numbers_after in refl, omega arith, omega arith)

pub loop-i-preserved : goal.loop-i-preserved
loop-i-preserved c = (numbers_more _ _ _ (omega arith) c.loop-i.invariant.0, simp length-set c.loop-i.invariant.1, c.loop-i.invariant.2)

pub returns-in_err-range_batch-clause-number : goal.returns-in_err-range_batch-clause-number
returns-in_err-range_batch-clause-number c =
    let last : c.loop-i.i ≡ c.args.n = omega arith in
    let p = err_from_is_err_and c.from_residual.result c.from_residual.ensures.1 in
    rw (p.1, p.2) (read_number _ _ _ c.requires.0 _ (omega arith) _ (rw last at c.loop-i.invariant.0) _ _ c.in_err-range_batch.ensures)

pub returns-clause-number : goal.returns-clause-number
returns-clause-number c =
    let last : c.loop-i.i ≡ c.args.n = omega arith in
    read_number _ _ _ c.requires.0 _ (omega arith) _ (rw last at c.loop-i.invariant.0) _ _ c.in_ok-range_batch.ensures

pub returns-clause-lines : goal.returns-clause-lines
returns-clause-lines c =
    let last : c.loop-i.i ≡ c.args.n = omega arith in
    window_read _ _ _ c.requires.0 _ (omega arith) _ (rw last at c.loop-i.invariant.0) _ _ c.in_ok-range_batch.ensures refl c.requires.2 _ _ _ c.requires.1 c.range_batch.auto.answers c.window_text.ensures
