-- `loc_window::blocks::with_rows` meets its contract.
-- The invariant: the records so far are known, and of those that follow in the block the bytes are in the sums.
use Prim.Native.Nat.{◌+◌, ◌-◌, ◌*◌, ◌≤◌}
use Rattle.std.specs.Prelude.{not, eqb}
use Rattle.loc_window.specs.Window.{kind_of, Swapping}
use Rattle.loc_window.proofs.blocks.with_rows.Given as goal

abbrev pub invariant-loop-left : goal.invariant-loop-left
invariant-loop-left g l =
    (8 * l.s.block ≤ l.j) × (l.j ≤ 8 * l.s.block + 8) × Swapping (kind_of (not (eqb g.row.PAIRED 0))) l.w.base l.w.bytes.now l.w.rows.now l.j (8 * l.s.block + 8 - l.j) l.x l.y l.row l.left

abbrev pub decreases-loop-left : goal.decreases-loop-left
decreases-loop-left g l = 8 * l.s.block + 8 - l.j
