-- `zero_nibble` gives which of a word's four records hold a 0.
use native.Mathlib.Omega.{arith}
use Rattle.loc_leaf.specs.declared.Kind.TheVariants.{Paired}
use Rattle.loc_leaf.specs.Bytes.{bytes}
use Rattle.loc_leaf.proofs.MaskLaws.{zero_nibble_is, nibble_low}
use Rattle.loc_leaf.proofs.loc_simd.zero_nibble.Goals as goal

pub returns : goal.returns
returns c =
    let w = c.args.w in
    let e = zero_nibble_is w _ c.full.ensures in
    (e, rw e (nibble_low Paired (bytes 8 w) 0 4 (omega arith)))
