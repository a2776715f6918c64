-- `loc_span_at::find::find` meets its contract.
-- The invariant: the part that is left is one of the part, and has the span.
use Rattle.loc_span_at.proofs.FindLaws.{inside_itself, inside_inside, crossed_inside, crossed_any}
use Rattle.loc_span_at.proofs.find.find.Goals as goal

pub loop-p-init : goal.loop-p-init
loop-p-init c = (c.requires, inside_itself _ _)

pub loop-p-preserved : goal.loop-p-preserved
loop-p-preserved c = (c.half-p.ensures.holding, inside_inside _ _ _ _ c.loop-p.invariant.1 c.half-p.ensures.inside)

pub returns : goal.returns
returns c = λ k. crossed_any c.args.a.slots.now c.args.a.rows.now _ k _ _ _ _ _ (crossed_inside _ _ _ _ _ c.loop-p.invariant.1 c.record_in.ensures)
