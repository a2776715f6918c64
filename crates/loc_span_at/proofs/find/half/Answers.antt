-- `loc_span_at::find::half` meets its contract.
use native.Mathlib.Omega.{arith}
use Rattle.loc_span_at.proofs.FindLaws.{half_low, half_first, half_rest, half_whole}
use Rattle.loc_span_at.proofs.find.half.Goals as goal

pub overflow_add-before : goal.overflow_add-before
overflow_add-before c = omega (arith, half_low _ _ _ _ c.requires.0 c.requires.1 _ _ (c.totals.ensures _) _ c.in-Some.is)

pub returns-then-t-before : goal.returns-then-t-before
returns-then-t-before c = half_first _ _ _ _ c.requires.0 c.requires.1 _ _ (c.totals.ensures _) _ c.in-Some.is c.if-t-before.true

pub returns-else-t-before : goal.returns-else-t-before
returns-else-t-before c = half_rest _ _ _ _ c.requires.0 c.requires.1 _ _ (c.totals.ensures _) _ c.in-Some.is c.if-t-before.false

pub returns-in-None : goal.returns-in-None
returns-in-None c = absurd (half_whole _ _ _ _ c.requires.0 c.requires.1 _ _ (c.totals.ensures _) c.in-None.is)
