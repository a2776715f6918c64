-- `loc_leaf::loc_simd::empty_nibble` meets its contract.
use native.Mathlib.Omega.{arith}
use Rattle.loc_leaf.specs.declared.Kind.TheVariants.{Single}
use Rattle.loc_leaf.specs.Bytes.{bytes}
use Rattle.loc_leaf.proofs.MaskLaws.{empty_nibble_is, nibble_low}
use Rattle.loc_leaf.proofs.loc_simd.empty_nibble.Goals as goal

pub returns : goal.returns
returns c =
    let w = c.args.w in
    let e = empty_nibble_is w _ _ c.even_full.ensures c.even_full-2.ensures in
    (e, rw e (nibble_low Single (bytes 8 w) 0 4 (omega arith)))
