-- What a call's code is lent, as these definitions have it: three areas to be read, or to be stored to, and the four lists of a batch.
-- Areas that are stored to stay lent by the same lender.
use Rattle.std.specs.Prelude.{◌≡◌}
use Rattle.loc_calls.specs.declared.Areas as lent_areas
use Rattle.loc_calls.specs.declared.AreasMut.{AreasMut}
use Rattle.loc_calls.specs.declared.Batch as lent_batch
use Rattle.loc_calls.specs.Areas.{Areas, areas}
use Rattle.loc_calls.specs.Table.{Batch, batch}

abbrev pub seen : lent_areas.Areas → Areas
seen a = areas a.slots.now a.rows.now a.checkpoints.now

abbrev pub held : AreasMut → Areas
held a = areas a.slots.now a.rows.now a.checkpoints.now

abbrev pub lists : lent_batch.Batch → Batch
lists b = batch b.starts.now b.lens.now b.span_starts.now b.span_counts.now

-- before a call and after it
abbrev pub SameLenders : AreasMut → AreasMut → Type 0
SameLenders a b =
    (b.slots.ghost_name ≡ a.slots.ghost_name)
    × (b.rows.ghost_name ≡ a.rows.ghost_name)
    × (b.checkpoints.ghost_name ≡ a.checkpoints.ghost_name)
