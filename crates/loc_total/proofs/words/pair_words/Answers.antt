-- `loc_total::words::pair_words` meets its contract.
-- The invariant: each lane has the sums of its records of the words so far.
use mathlib.Core.Path.{refl}
use native.Mathlib.Omega.{arith}
use Rattle.loc_total.proofs.WordLaws.{pair_none, pair_next, pair_kept, pair_total}
use Rattle.loc_total.proofs.words.pair_words.Goals as goal

pub loop-i-init : goal.loop-i-init
loop-i-init c = pair_none _

pub loop-i-preserved : goal.loop-i-preserved
loop-i-preserved c = pair_next _ _ _ c.word_at-w.ensures _ _ _ _ c.loop-i.invariant c.full.ensures

pub overflow_sub-lacking : goal.overflow_sub-lacking
overflow_sub-lacking c = pair_kept _ _ _ (omega (arith, c.loop-i.auto.i-end)) c.loop-i-test.false c.requires.0 _ _ _ _ c.loop-i.invariant c.strides_total.ensures.0

pub returns : goal.returns
returns c = pair_total _ _ _ (omega (arith, c.loop-i.auto.i-end)) c.loop-i-test.false c.requires.0 _ _ _ _ _ c.loop-i.invariant c.strides_total-strides.ensures.0 c.strides_total-spans.ensures.0 c.strides_total.ensures.0 refl
