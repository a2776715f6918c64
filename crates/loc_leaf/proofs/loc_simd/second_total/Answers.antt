-- `loc_leaf::loc_simd::second_total` meets its contract.
-- The second bytes of a block are the first bytes of its words shifted by a byte.
use mathlib.Core.Path.{◌∙◌}
use Rattle.loc_leaf.proofs.BlockLaws.{total_seconds}
use Rattle.loc_leaf.proofs.loc_simd.second_total.Goals as goal

pub returns : goal.returns
returns c = (c.first_total.ensures.0 ∙ total_seconds c.args.lo c.args.hi, c.first_total.ensures.1)
