-- `loc_window::blocks::blocks_of` meets its contract.
-- The invariant: the sums of the blocks so far, none of which is marked from the first stop on.
use Prim.Native.Nat.{◌-◌}
use Rattle.std.specs.Prelude.{not, eqb}
use Rattle.loc_window.specs.Window.{kind_of, BlocksAfter}
use Rattle.loc_window.proofs.blocks.blocks_of.Given as goal

abbrev pub invariant-loop-t : goal.invariant-loop-t
invariant-loop-t g l =
    BlocksAfter (kind_of (not (eqb g.row.PAIRED 0))) l.w.base l.w.bytes.now l.w.rows.now l.w.mark.now l.w.stamp l.initial.t.block l.full l.t

abbrev pub decreases-loop-t : goal.decreases-loop-t
decreases-loop-t g l = l.full - l.t.block
