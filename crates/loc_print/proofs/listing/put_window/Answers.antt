-- `loc_print::listing::put_window` meets its contract.
-- A refusal's number is one of 1 to 29.
use Prim.Native.Nat.{◌<◌}
use mathlib.Core.Path.{refl, sym, ◌∙◌}
use native.Mathlib.Omega.{arith}
use Rattle.std.proofs.lemmas.Bool.Decides.{nat_tests}
use Rattle.loc_leaf.specs.declared.refusal.Refusal.{Refusal}
use Rattle.loc_leaf.specs.Answers.{number_of}
use Rattle.loc_leaf.proofs.Refusals.{number_some}
use Rattle.loc_print.proofs.WindowLaws.{window_put, refusal_put}
use Rattle.loc_print.proofs.listing.put_window.Goals as goal

number_most : (r : Refusal) → 29 < number_of r → ⊥
number_most r h = grind arith

pub returns-in-Ok : goal.returns-in-Ok
returns-in-Ok c =
    record {
      text = (window_put _ _ _ _ _ _ (sym c.in-Ok.ensures.number) c.in-Ok.ensures.lines.0, c.in-Ok.ensures.lines.1);
      goes_on = rw (← c.in-Ok.ensures.number) refl;
    }

-- whichever form the answer has that the windows after it are not listed
pub returns-in-Err : goal.returns-in-Err
returns-in-Err c =
    let line = rw c.in-Err.ensures.kept at c.refused_text.ensures in
    let some = number_some c.in-Err.refusal in
    let most = number_most c.in-Err.refusal in
    record {
      text = (
        refusal_put _ _ _ _ _ _ _ (c.from.ensures ∙ c.in-Err.ensures.number) (rw c.from.ensures (number_some _)) (omega (arith, c.requires)) line.0,
        omega (arith, c.requires, line.2),
      );
      goes_on = grind (arith, nat_tests);
    }
