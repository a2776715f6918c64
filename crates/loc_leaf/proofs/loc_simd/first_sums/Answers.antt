-- `first_sums` gives the running sums of a block's first bytes.
use Prim.Native.Nat.{◌/◌, ◌^◌}
use lib.Bits.{and_le_r}
use mathlib.Core.Path.{◌∙◌}
use native.Mathlib.Omega.{arith}
use Rattle.loc_leaf.proofs.Lanes.{eight_sums, running_block}
use Rattle.loc_leaf.proofs.loc_simd.first_sums.Goals as goal

pub overflow_cast-result : goal.overflow_cast-result
overflow_cast-result c = omega (arith, and_le_r c.lane_sums-a.result 65535)

pub overflow_cast-result-2 : goal.overflow_cast-result-2
overflow_cast-result-2 c = omega (arith, and_le_r (c.lane_sums-a.result / 2 ^ 16) 65535)

pub overflow_cast-result-3 : goal.overflow_cast-result-3
overflow_cast-result-3 c = omega (arith, and_le_r (c.lane_sums-a.result / 2 ^ 32) 65535)

-- the sums of hi, on top of the last of lo
pub overflow_cast-result-4 : goal.overflow_cast-result-4
overflow_cast-result-4 c = omega (arith, and_le_r c.lane_sums-b.result 65535)

pub overflow_add-result : goal.overflow_add-result
overflow_add-result c = omega (arith, and_le_r c.lane_sums-b.result 65535)

pub overflow_cast-result-5 : goal.overflow_cast-result-5
overflow_cast-result-5 c = omega (arith, and_le_r (c.lane_sums-b.result / 2 ^ 16) 65535)

pub overflow_add-result-2 : goal.overflow_add-result-2
overflow_add-result-2 c = omega (arith, and_le_r (c.lane_sums-b.result / 2 ^ 16) 65535)

pub overflow_cast-result-6 : goal.overflow_cast-result-6
overflow_cast-result-6 c = omega (arith, and_le_r (c.lane_sums-b.result / 2 ^ 32) 65535)

pub overflow_add-result-3 : goal.overflow_add-result-3
overflow_add-result-3 c = omega (arith, and_le_r (c.lane_sums-b.result / 2 ^ 32) 65535)

pub returns : goal.returns
returns c = (λ i. eight_sums (c.lane_sums-a.ensures i) (c.lane_sums-b.ensures i)) ∙ running_block c.args.lo c.args.hi
