-- `loc_window::blocks::plain` meets its contract.
-- The invariant: the blocks so far are plain, and their bytes are in the sums.
use Rattle.std.specs.Prelude.{not, eqb}
use Rattle.loc_window.specs.Window.{kind_of, sums_of, PlainBlocks}
use Rattle.loc_window.proofs.blocks.plain.Given as goal

abbrev pub invariant-loop-b : goal.invariant-loop-b
invariant-loop-b g l =
    PlainBlocks (kind_of (not (eqb g.row.PAIRED 0))) l.w.bytes.now l.w.mark.now l.w.stamp l.full l.fn.s (sums_of l.t.strides l.t.spans l.t.row l.b)
