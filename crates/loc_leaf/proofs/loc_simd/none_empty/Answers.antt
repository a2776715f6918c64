-- `loc_leaf::loc_simd::none_empty` meets its contract.
-- The carries of four words are all there only where each word has all of its own.
use borrow.Author.Tests.{eqb-true}
use Rattle.loc_leaf.proofs.MaskLaws.{none_empty_mask}
use Rattle.loc_leaf.proofs.loc_simd.none_empty.Goals as goal

pub returns : goal.returns
returns c t =
    none_empty_mask c.args.lo c.args.hi _ _ _ _
    c.even_full.ensures c.even_full-2.ensures c.even_full-3.ensures c.even_full-4.ensures (eqb-true _ _ t)
