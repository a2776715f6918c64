-- `lowest_record` gives the lowest record of a mask: it counts the zeros below it.
use native.Mathlib.Omega.{arith}
use Rattle.loc_leaf.proofs.Lanes.{trailing_lowest}
use Rattle.loc_leaf.proofs.loc_simd.lowest_record.Goals as goal

pub returns : goal.returns
returns c = omega (arith, trailing_lowest 8 c.args.mask)
