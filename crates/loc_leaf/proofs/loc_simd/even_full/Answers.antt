-- `loc_leaf::loc_simd::even_full` meets its contract.
use native.Mathlib.Omega.{arith}
use lib.Bits.{and_le_r}
use Rattle.loc_leaf.proofs.BlockLaws.{word_mask}
use Rattle.loc_leaf.proofs.MaskLaws.{even_word}
use Rattle.loc_leaf.proofs.loc_simd.even_full.Goals as goal

pub overflow_add-result : goal.overflow_add-result
overflow_add-result c = omega (arith, and_le_r c.args.w word_mask)

pub returns : goal.returns
returns c = even_word c.args.w
