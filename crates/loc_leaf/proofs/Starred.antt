-- The table of specs/Starred holds: every line computes.
-- The names on the `unfolding` line are all that the lines are made of.
use mathlib.Core.Path.{refl}
use Rattle.loc_leaf.specs.Bytes.{number, bytes, number_at}
use Rattle.loc_leaf.specs.Slot.{slot, needs_row, slot_at, checkpoint_rule}
use Rattle.loc_leaf.specs.Rows.{row, row_number, row_value}
use Rattle.loc_leaf.specs.Cut.{matches, cuts, cut_for}
use Rattle.loc_leaf.specs.Starred.{same_bytes, inline_as, row_as, keeps, cuts9, kept9, kept1, starred_cases, every, Starred}

pub starred : Starred
unfolding number bytes number_at slot needs_row slot_at checkpoint_rule row row_number row_value matches cuts cut_for same_bytes inline_as row_as keeps cuts9 kept9 kept1 starred_cases every Starred
starred = refl
