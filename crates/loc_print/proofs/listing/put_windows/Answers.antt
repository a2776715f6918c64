-- `loc_print::listing::put_windows` meets its contract.
use Prim.Native.Nat.{◌+◌, min}
use mathlib.Core.Path.{◌≡◌, refl, sym, ◌∙◌}
use native.Mathlib.Omega.{arith}
use borrow.Author.Rules.{rules}
use Rattle.std.proofs.lemmas.Bool.{eqb-true, eqb-false}
use Rattle.loc_print.proofs.WindowLaws.{all_left, no_lines, turn_refused, turn_put, turn_left, turns_done, names_then}
use Rattle.loc_print.proofs.listing.put_windows.Goals as goal

pub loop-done-init : goal.loop-done-init
loop-done-init c =
    let none : min 0 c.args.count ≡ 0 = omega arith in
    rw none (no_lines _ _ _, all_left _, omega arith, refl)

pub returns-then-not-goes_on : goal.returns-then-not-goes_on
returns-then-not-goes_on c =
    let here : min c.loop-done.done c.args.count ≡ c.loop-done.done = omega arith in
    let refused = eqb-false _ 0 (sym c.put_window-bytes.ensures.goes_on ∙ c.if-not-goes_on.true) in (
      names_then _ _ _ _ (omega (arith, c.requires.1)) _ _ _ _ c.names_text-at.ensures.0
          (turn_refused _ _ _ _ c.requires.0 _ c.loop-done-test.true (rw here at c.loop-done.invariant.1) _ c.min-n.ensures _ _ _ _ (rw here at c.loop-done.invariant.0) _ _ c.put_window-bytes.ensures.text.0 refused),
      omega (arith, c.requires.1, c.loop-done.invariant.2, c.put_window-bytes.ensures.text.1, c.names_text-at.ensures.2),
    )

pub loop-done-preserved : goal.loop-done-preserved
loop-done-preserved c =
    let here : min c.loop-done.done c.args.count ≡ c.loop-done.done = omega arith in
    let there : min (c.loop-done.done + 1024) c.args.count ≡ c.loop-done.done + c.min-n.result = omega arith in
    let accepted = eqb-true _ 0 (sym c.put_window-bytes.ensures.goes_on ∙ c.if-not-goes_on.false) in
    rw there (
      turn_put _ _ _ _ c.requires.0 _ c.loop-done-test.true (rw here at c.loop-done.invariant.1) _ c.min-n.ensures _ _ _ _ (rw here at c.loop-done.invariant.0) _ _ c.put_window-bytes.ensures.text.0 accepted,
      turn_left _ _ _ _ c.requires.0 _ c.loop-done-test.true (rw here at c.loop-done.invariant.1) _ c.min-n.ensures accepted,
      omega (arith, c.put_window-bytes.ensures.text.1),
      search rules,
    )

pub returns : goal.returns
returns c =
    let all : min c.loop-done.done c.args.count ≡ c.args.count = omega arith in (
      names_then _ _ _ _ (omega (arith, c.requires.1)) _ _ _ _ c.names_text-at.ensures.0
          (turns_done _ _ _ _ c.requires.0 c.args.count (omega arith) (rw all at c.loop-done.invariant.1) _ _ _ _ (rw all at c.loop-done.invariant.0)),
      omega (arith, c.requires.1, c.loop-done.invariant.2, c.names_text-at.ensures.2),
    )

pub returns-else-not-goes_on : goal.returns-else-not-goes_on
returns-else-not-goes_on c =
    let here : min c.loop-done.done c.args.count ≡ c.loop-done.done = omega arith in
    let all : c.loop-done.done + c.min-n.result ≡ c.args.count = omega arith in
    let accepted = eqb-true _ 0 (sym c.put_window-bytes.ensures.goes_on ∙ c.if-not-goes_on.false) in
    let left = turn_left _ _ _ _ c.requires.0 _ c.loop-done-test.true (rw here at c.loop-done.invariant.1) _ c.min-n.ensures accepted in
    let lines = turn_put _ _ _ _ c.requires.0 _ c.loop-done-test.true (rw here at c.loop-done.invariant.1) _ c.min-n.ensures _ _ _ _ (rw here at c.loop-done.invariant.0) _ _ c.put_window-bytes.ensures.text.0 accepted in (
      names_then _ _ _ _ (omega (arith, c.requires.1)) _ _ _ _ c.names_text-at.ensures.0
          (turns_done _ _ _ _ c.requires.0 c.args.count (omega arith) (rw all at left) _ _ _ _ (rw all at lines)),
      omega (arith, c.requires.1, c.loop-done.invariant.2, c.put_window-bytes.ensures.text.1, c.names_text-at.ensures.2),
    )
