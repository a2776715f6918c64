-- `loc_print::calls::import_text` meets its contract.
use mathlib.Core.Path.{refl, ◌∙◌}
use Rattle.loc_leaf.proofs.Refusals.{number_some}
use Rattle.loc_print.proofs.ShownLaws.{refusal_shown, listing_shown, to_created}
use Rattle.loc_print.proofs.calls.import_text.Goals as goal

pub returns-in-Ok : goal.returns-in-Ok
returns-in-Ok c =
    let shown = listing_shown _ _ _ (to_created _ _ _ _ _ _ c.create.ensures.0 c.in-Ok.ensures.0) _ _ _ refl (rw c.shared.ensures at c.listing_text.ensures) in
    (shown.0, shown.1, shown.2, (c.in-Ok.ensures.1.0 ∙ c.create.ensures.1.0, c.in-Ok.ensures.1.1 ∙ c.create.ensures.1.1, c.in-Ok.ensures.1.2 ∙ c.create.ensures.1.2))

pub returns-in-Err : goal.returns-in-Err
returns-in-Err c =
    let shown = refusal_shown _ _ _ (to_created _ _ _ _ _ _ c.create.ensures.0 c.in-Err.ensures.0) _ _ _ (number_some _) (rw c.from.ensures at c.refused_text.ensures) in
    (shown.0, shown.1, shown.2, (c.in-Err.ensures.1.0 ∙ c.create.ensures.1.0, c.in-Err.ensures.1.1 ∙ c.create.ensures.1.1, c.in-Err.ensures.1.2 ∙ c.create.ensures.1.2))
