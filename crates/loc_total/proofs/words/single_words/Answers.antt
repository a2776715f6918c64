-- `loc_total::words::single_words` meets its contract.
-- The invariant: each lane has the sums of its records of the words so far.
use mathlib.Core.Path.{refl}
use native.Mathlib.Omega.{arith}
use Rattle.loc_total.proofs.WordLaws.{single_none, single_next, single_total}
use Rattle.loc_total.proofs.words.single_words.Goals as goal

pub loop-i-init : goal.loop-i-init
loop-i-init c = single_none _

pub loop-i-preserved : goal.loop-i-preserved
loop-i-preserved c = single_next _ _ _ c.word_at-w.ensures _ _ _ _ c.loop-i.invariant c.even_full.ensures c.even_full-in-loop-i.ensures

pub returns : goal.returns
returns c = single_total _ _ _ (omega (arith, c.loop-i.auto.i-end)) c.loop-i-test.false c.requires.0 _ _ _ _ c.loop-i.invariant c.two_total-strides.ensures refl c.two_total.ensures refl
