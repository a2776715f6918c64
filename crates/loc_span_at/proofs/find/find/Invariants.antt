-- `loc_span_at::find::find` meets its contract.
-- The invariant: the part that is left is one of the part, and has the span.
use Rattle.loc_calls.specs.Lent.{seen}
use Rattle.loc_span_at.specs.Find.{Holding, Inside}
use Rattle.loc_span_at.proofs.find.find.Given as goal

abbrev pub invariant-loop-p : goal.invariant-loop-p
invariant-loop-p l = Holding (seen l.a) l.row_count l.t l.p × Inside (seen l.a) l.initial.p l.p

abbrev pub decreases-loop-p : goal.decreases-loop-p
decreases-loop-p l = l.p.m
