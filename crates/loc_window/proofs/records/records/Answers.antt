-- `loc_window::records::records` meets its contract.
-- The invariant: the sums of k records are known, and all from the first on are stored.
use mathlib.Core.Path.{refl}
use native.Mathlib.Omega.{arith}
use Rattle.loc_window.proofs.SumLaws.{written_first}
use Rattle.loc_window.proofs.RecordLaws.{lacks_before, turned}
use Rattle.loc_window.proofs.records.records.Goals as goal

pub loop-k-init : goal.loop-k-init
loop-k-init g c = (refl, c.requires.after, written_first _ _ _ _ _ c.args.s c.args.body.now c.args.span.now c.requires.after (omega arith) (omega arith))

pub returns-in_err-t : goal.returns-in_err-t
returns-in_err-t g c = rw c.from_residual.ensures (lacks_before _ _ _ _ _ _ c.loop-k.t c.one_more.result c.one_more.ensures c.in_err-t.was c.loop-k-test.true)

pub loop-k-preserved : goal.loop-k-preserved
loop-k-preserved g c =
    turned _ _ _ _ _ _ _ _ _ _ c.loop-k.t _ c.one_more.result c.args.body.now c.args.span.now c.loop-k.body c.loop-k.span c.loop-k.auto.k c.loop-k-test.true c.requires.body_room c.requires.span_room c.loop-k.invariant.2 c.loop-k.invariant.0 c.one_more.ensures c.in_ok-t.was
