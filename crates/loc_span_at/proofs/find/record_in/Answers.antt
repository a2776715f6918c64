-- `loc_span_at::find::record_in` meets its contract.
use native.Mathlib.Omega.{arith}
use Rattle.loc_span_at.proofs.FindLaws.{record_low, record_crossed}
use Rattle.loc_span_at.proofs.find.record_in.Goals as goal

pub overflow_sub-result : goal.overflow_sub-result
overflow_sub-result c = omega (arith, record_low _ _ _ _ c.requires _ _ (c.totals.ensures _) _ c.first_above-k.ensures)

pub returns : goal.returns
returns c = record_crossed _ _ _ _ c.requires _ _ (c.totals.ensures _) _ c.first_above-k.ensures
