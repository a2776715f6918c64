-- `loc_leaf::loc_simd::none_zero` meets its contract.
-- The carries of two words are all there only where each word has all of its own.
use borrow.Author.Tests.{eqb-true}
use Rattle.loc_leaf.proofs.MaskLaws.{none_zero_mask}
use Rattle.loc_leaf.proofs.loc_simd.none_zero.Goals as goal

pub returns : goal.returns
returns c t =
    let lo = c.args.lo in
    let hi = c.args.hi in
    none_zero_mask lo hi _ _ c.full.ensures c.full-2.ensures (eqb-true _ _ t)
