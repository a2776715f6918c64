-- `loc_total::window::part_total` meets its contract.
use Rattle.loc_total.proofs.TotalLaws.{with_none, with_totalled}
use Rattle.loc_total.proofs.window.part_total.Goals as goal

pub with_rows-requires : goal.with_rows-requires
with_rows-requires c = (c.requires, with_none _ _ _ _ _ _ _ c.requires.rise c.slots_total.ensures)

pub returns : goal.returns
returns c = with_totalled _ _ _ _ _ _ c.with_rows.ensures
