-- `loc_leaf::loc_simd::first_total` meets its contract.
-- No lane of a sum of bytes reaches 2^16.
use native.Mathlib.Omega.{arith}
use lib.Bits.{and_le_r}
use Rattle.loc_leaf.proofs.Lanes.{byte_mask}
use Rattle.loc_leaf.proofs.BlockLaws.{total_firsts, firsts_small}
use Rattle.loc_leaf.proofs.loc_simd.first_total.Goals as goal

pub overflow_add-e : goal.overflow_add-e
overflow_add-e c = omega (arith, and_le_r c.args.lo byte_mask, and_le_r c.args.hi byte_mask)

pub overflow_add-t : goal.overflow_add-t
overflow_add-t c = record { fits = (total_firsts c.args.lo c.args.hi).0 }

pub overflow_add-result : goal.overflow_add-result
overflow_add-result c = record { fits = (total_firsts c.args.lo c.args.hi).1 }

pub returns : goal.returns
returns c =
    let e = (total_firsts c.args.lo c.args.hi).2 in
    (e, rw e (firsts_small c.args.lo c.args.hi))
