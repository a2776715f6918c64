-- `loc_leaf::loc_simd::strides_total` meets its contract.
-- No lane of a sum of sixteen bits reaches 2^32.
use Prim.Native.Nat.{◌/◌, ◌^◌}
use native.Mathlib.Omega.{arith}
use lib.Bits.{and_le_r}
use Rattle.loc_leaf.proofs.BlockLaws.{word_mask, total_records, records_small}
use Rattle.loc_leaf.proofs.loc_simd.strides_total.Goals as goal

pub overflow_add-e : goal.overflow_add-e
overflow_add-e c = omega (arith, and_le_r c.args.lo word_mask, and_le_r (c.args.lo / 2 ^ 16) word_mask)

pub overflow_add-e-2 : goal.overflow_add-e-2
overflow_add-e-2 c = omega (arith, and_le_r c.args.lo word_mask, and_le_r (c.args.lo / 2 ^ 16) word_mask, and_le_r c.args.hi word_mask)

pub overflow_add-e-3 : goal.overflow_add-e-3
overflow_add-e-3 c =
    omega (arith, and_le_r c.args.lo word_mask, and_le_r (c.args.lo / 2 ^ 16) word_mask, and_le_r c.args.hi word_mask, and_le_r (c.args.hi / 2 ^ 16) word_mask)

pub overflow_add-result : goal.overflow_add-result
overflow_add-result c = omega (arith, total_records c.args.lo c.args.hi, records_small c.args.lo c.args.hi)

pub returns : goal.returns
returns c =
    let e = total_records c.args.lo c.args.hi in
    (e, rw e (records_small c.args.lo c.args.hi))
