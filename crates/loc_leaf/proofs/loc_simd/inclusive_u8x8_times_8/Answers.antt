-- `inclusive_u8x8_times_8` gives the running sums of a block's first bytes, and of its second bytes.
use mathlib.Core.Path.{◌∙◌, ap}
use Rattle.loc_leaf.proofs.Lanes.{shifted_firsts}
use Rattle.loc_leaf.specs.Block.{running}
use Rattle.loc_leaf.proofs.loc_simd.inclusive_u8x8_times_8.Goals as goal

pub returns : goal.returns
returns c =
    record {
      is_body = c.first_sums-tx.ensures;
      is_span = c.first_sums-sp.ensures ∙ ap (running 0) (shifted_firsts c.args.lo c.args.hi);
    }
