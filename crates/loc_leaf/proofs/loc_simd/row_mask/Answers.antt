-- `row_mask` gives which of a block's records need a row: the masks of its two words, side by side.
use Prim.Native.Nat.{◌+◌, ◌*◌}
use mathlib.Core.Path.{◌∙◌}
use native.Mathlib.Omega.{arith}
use Rattle.loc_leaf.proofs.MaskLaws.{words_append}
use Rattle.loc_leaf.proofs.loc_simd.row_mask.Goals as goal

pub returns : goal.returns
returns c = ((λ i. c.nibble.ensures.0 i + 16 * c.nibble-2.ensures.0 i) ∙ words_append _ c.args.lo c.args.hi, omega arith)
