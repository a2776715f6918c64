-- `loc_window::plan::plan_last` meets its contract.
-- The invariant: both places are at most as many rows further on as are left.
use Prim.Native.Nat.{◌-◌}
use mathlib.Core.Path.{◌≡◌}
use Rattle.loc_window.specs.Planned.{Nearing}
use Rattle.loc_window.proofs.plan.plan_last.Given as goal

abbrev pub invariant-loop : goal.invariant-loop
invariant-loop l = (l.window.base ≡ l.near.base) × (l.window.m ≡ l.near.m) × Nearing l.kind l.rows l.near.base l.window.first l.window.past (l.left - l.counter)
