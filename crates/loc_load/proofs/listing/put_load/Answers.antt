-- `loc_load::listing::put_load` meets its contract.
use mathlib.Core.Path.{refl}
use native.Mathlib.Omega.{arith}
use borrow.Author.Rules.{rules}
use Rattle.loc_load.proofs.ListingLaws.{all_left, none_left, one_left, names_then}
use Rattle.loc_load.proofs.listing.put_load.Goals as goal

pub loop-i-init : goal.loop-i-init
loop-i-init c = (all_left _ _ _ _, omega arith, omega arith, omega arith, refl)

pub loop-i-preserved : goal.loop-i-preserved
loop-i-preserved c = (
  one_left _ _ _ _ _ _ _ _ _ _ c.loop-i.invariant.0 _ _ _ _ _ c.next_state-first.ensures c.next_state-x.ensures refl refl refl c.loop-i-test.true
      (omega (arith, c.requires.1, c.names_text-at.ensures.2)) _ _ c.line_text-at.ensures.0,
  omega (arith, c.line_text-at.ensures.2),
  omega arith,
  omega arith,
  search rules,
)

pub returns : goal.returns
returns c = (names_then _ _ _ _ _ _ _ (omega (arith, c.requires.1)) c.names_text-at.ensures.0 (none_left _ _ _ _ _ _ _ _ _ _ c.loop-i.invariant.0 c.loop-i-test.false), omega (arith, c.requires.1, c.names_text-at.ensures.2))
