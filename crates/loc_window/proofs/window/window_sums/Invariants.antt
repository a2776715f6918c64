-- `loc_window::window::window_sums` meets its contract.
-- The invariant: the sums of the blocks so far, `Summing`.
use Prim.Native.Nat.{◌+◌, ◌-◌, ◌*◌}
use lib.ListN.{length}
use Rattle.loc_window.specs.Window.{Summing}
use Rattle.loc_window.proofs.window.window_sums.Given as goal

abbrev pub invariant-loop-s : goal.invariant-loop-s
invariant-loop-s l = Summing l.w.kind (length l.initial.body) l.w.base l.w.m l.w.bytes.now l.w.rows.now l.w.past l.w.mark.now l.w.stamp l.s.block l.s l.body l.span

abbrev pub decreases-loop-s : goal.decreases-loop-s
decreases-loop-s l = l.w.m + 8 - 8 * l.s.block
