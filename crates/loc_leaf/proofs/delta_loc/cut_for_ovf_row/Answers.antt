-- `delta_loc::cut_for_ovf_row` meets its contract.
use borrow.Author.Rules.{rules}
use Rattle.loc_leaf.proofs.SlotLaws.{cut_before, cut_high, cut_low, cut_unmatched}
use Rattle.loc_leaf.proofs.delta_loc.cut_for_ovf_row.Goals as goal

pub returns-then-number-last : goal.returns-then-number-last
returns-then-number-last c = search (rules, cut_low)

pub returns-then-n-number : goal.returns-then-n-number
returns-then-n-number c = search (rules, cut_high)

pub returns-then-ovf_row_matches_slot : goal.returns-then-ovf_row_matches_slot
returns-then-ovf_row_matches_slot c = search (rules, cut_before)

pub returns : goal.returns
returns c = search (rules, cut_unmatched)
