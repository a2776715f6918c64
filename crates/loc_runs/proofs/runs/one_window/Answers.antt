-- `loc_runs::runs::one_window` meets its contract.
-- The invariant is `Sweep`: the numbers so far lie in the first one's window.
use Rattle.std.proofs.Common.{ℕ, ◌/◌, ◌<◌, length, set, refl, ap, arith}
use Rattle.loc_runs.proofs.RunLaws.{sweep_next, one_run_looked}
use Rattle.loc_runs.proofs.runs.one_window.Goals as goal

pub loop-id-preserved : goal.loop-id-preserved
loop-id-preserved c =
    sweep_next _ _ _ c.requires.0 _ c.loop-id.mark _ (omega arith) _ _ _ _ c.loop-id.invariant c.loop-id-test.true refl (c.in_window.ensures c.if-not-in_window.false) c.max-most.ensures
    (ap (λ (j : ℕ). set c.loop-id.mark (j / 8) 1) c.loc_within.ensures.0)

pub returns : goal.returns
returns c =
    let some : 0 < length c.args.wanted.now = c.in_ok-most.ensures.item.3.0 in
    one_run_looked _ _ _ c.requires.0 _ _ _ _ c.looked_at.ensures (c.loop-id.invariant.run (omega arith)) (omega arith) c.loop-id-test.false c.loop-id.invariant.inside
