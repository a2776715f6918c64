-- `loc_parts::pass::needed_records` meets its contract.
-- The words from s on are lent to be sorted; what the stage holds afterwards is left open.
use Rattle.std.proofs.Common.{arith}
use Rattle.loc_parts.proofs.DistinctLaws.{lent_long, stage_needed}
use Rattle.loc_parts.proofs.WalkLaws.{found_needed}
use Rattle.loc_parts.proofs.pass.needed_records.Goals as goal

pub returns : goal.returns
returns c =
    let w = c.walk-s in
    let o = w.new.stage in (
      omega (arith, c.sort_distinct.ensures.0, lent_long c.args.pairs.composites.now c.args.pairs.components.now c.requires.0 o w.result, w.ensures.0, c.requires.1.for_list),
      stage_needed _ _ c.requires.0 o w.result c.args.«record» _ (found_needed _ _ _ _ _ _ w.ensures.1) c.sort_distinct.ensures.1,
    )
