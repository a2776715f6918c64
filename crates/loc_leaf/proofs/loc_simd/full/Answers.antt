-- `loc_leaf::loc_simd::full` meets its contract.
use Prim.Native.Nat.{◌/◌, ◌^◌}
use native.Mathlib.Omega.{arith}
use lib.Bits.{and_le_r}
use Rattle.loc_leaf.proofs.Lanes.{byte_mask}
use Rattle.loc_leaf.proofs.MaskLaws.{full_word}
use Rattle.loc_leaf.proofs.loc_simd.full.Goals as goal

pub overflow_add-result : goal.overflow_add-result
overflow_add-result c = omega (arith, and_le_r c.args.w byte_mask)

pub overflow_add-result-2 : goal.overflow_add-result-2
overflow_add-result-2 c = omega (arith, and_le_r (c.args.w / 2 ^ 8) byte_mask)

pub returns : goal.returns
returns c = full_word c.args.w
