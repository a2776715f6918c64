-- `delta_loc::rows_up_to` meets its contract.
use Prim.Native.Nat.{◌-◌, ◌≤◌}
use lib.ListN.{drop}
use mathlib.Core.Path.{◌≡◌}
use Rattle.loc_leaf.specs.Area.{pieces}
use Rattle.loc_leaf.specs.Rows.{halve, number_in, rows_up_to_by_halves}
use Rattle.loc_leaf.proofs.delta_loc.rows_up_to.Given as goal

abbrev pub invariant-loop-lo : goal.invariant-loop-lo
invariant-loop-lo l =
    (l.lo ≤ l.hi) × (l.hi ≤ l.initial.hi) × (rows_up_to_by_halves l.n (pieces l.width l.initial.hi (drop 16 l.rows)) ≡ halve (number_in (pieces l.width l.initial.hi (drop 16 l.rows))) l.n (l.hi - l.lo) l.lo l.hi)

abbrev pub decreases-loop-lo : goal.decreases-loop-lo
decreases-loop-lo l = l.hi - l.lo
