-- `loc_span_at::windows::span_in` meets its contract.
-- The invariant: the quarters before q are passed, and this is the crossing in them.
use Rattle.loc_calls.specs.Lent.{seen}
use Rattle.loc_calls.specs.SpanAt.{crossing_of}
use Rattle.loc_span_at.specs.Windows.{Finding}
use Rattle.loc_span_at.proofs.windows.span_in.Given as goal

abbrev pub invariant-loop-q : goal.invariant-loop-q
invariant-loop-q l = Finding (seen l.a) l.address l.count l.q l.row l.before (crossing_of l.found)
