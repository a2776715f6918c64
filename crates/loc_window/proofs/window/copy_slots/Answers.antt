-- `loc_window::window::copy_slots` meets its contract.
use Rattle.std.proofs.Common.{◌∙◌, rules, arith}
use Rattle.std.proofs.lemmas.Grind.{common_steps}
use Rattle.loc_leaf.proofs.SliceLaws.{copied_whole}
use Rattle.loc_window.proofs.window.copy_slots.Goals as goal

pub returns : goal.returns
returns c =
    let whole = c.copy.ensures ∙ copied_whole _ _ (search rules) in
    grind (arith, common_steps, whole)
