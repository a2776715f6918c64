-- `loc_span_at::windows::first_crossing` meets its contract.
use Prim.Native.Nat.{◌/◌}
use mathlib.Core.Path.{◌≡◌, sym, ap, ◌∙◌}
use native.Mathlib.Omega.{arith}
use borrow.Author.Rules.{rules}
use Rattle.loc_leaf.specs.declared.Kind.TheVariants.{Paired}
use Rattle.loc_calls.specs.Lent.{seen}
use Rattle.loc_calls.specs.Reading.{window_end}
use Rattle.loc_span_at.proofs.CallLaws.{found_ok, found_err, found_none, found_stays, found_21, found_next}
use Rattle.loc_span_at.proofs.WindowLaws.{hold_start, none_there, held_there}
use Rattle.loc_span_at.proofs.windows.first_crossing.Goals as goal

pub returns-then-is_ok : goal.returns-then-is_ok
returns-then-is_ok c = found_stays _ _ _ _ c.requires.found_value _ (found_ok c.args.found _ c.is_ok.ensures.value c.if-is_ok.true)

pub returns-then-not-spans_hold : goal.returns-then-not-spans_hold
returns-then-not-spans_hold c =
    let none = found_err c.args.found _ c.is_ok.ensures.value c.if-is_ok.false in
    let e : c.args.p.base / 1024 ≡ c.args.p.base / 256 / 4 = omega arith in
    found_next _ _ _ _ c.requires.found_value _ none _ (found_21 _ _ _ _ c.requires.found_value none ∙ none_there _ _ _ _ _ _ _ _ _ c.requires.quarter.0 (c.window_end-start.ensures _ _ (omega arith) ∙ ap (window_end Paired (seen c.args.a) 8) e) (search rules) (search rules) (found_none _ _ _ _ c.requires.found_value none) (sym c.spans_hold.ensures ∙ c.if-not-spans_hold.true))

pub returns : goal.returns
returns c =
    let none = found_err c.args.found _ c.is_ok.ensures.value c.if-is_ok.false in
    let e : c.args.p.base / 1024 ≡ c.args.p.base / 256 / 4 = omega arith in
    found_next _ _ _ _ c.requires.found_value _ none _ (held_there _ _ _ _ _ _ _ _ _ c.requires.quarter.0 (c.window_end-start.ensures _ _ (omega arith) ∙ ap (window_end Paired (seen c.args.a) 8) e) (search rules) (search rules) (hold_start _ _ _ _ (sym c.spans_hold.ensures ∙ c.if-not-spans_hold.false)) c.find-span.result (rw c.requires.quarter.1 (c.find-span.ensures _)))
