-- `loc_total::rows::with_rows` meets its contract.
-- The invariant: the sums by the rows from the place on.
use Prim.Native.Nat.{◌+◌, ◌-◌}
use native.Mathlib.Omega.{arith}
use Rattle.loc_total.proofs.TotalLaws.{with_at, with_all}
use Rattle.loc_total.proofs.rows.with_rows.Goals as goal

pub returns-then-id-p : goal.returns-then-id-p
returns-then-id-p c = with_all _ _ _ _ _ _ c.requires.0.rise (c.loop-row.row - 1) _ (omega (arith, c.loop-row-test.true, c.loop-row.auto.row)) (omega (arith, c.row_number-id.ensures, c.if-id-p.true)) (with_at _ _ _ _ _ c.loop-row.row (c.loop-row.row - 1 + 1) _ (omega (arith, c.loop-row-test.true)) c.loop-row.invariant)
