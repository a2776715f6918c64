-- `delta_loc::rows_up_to` meets its contract.
use Prim.Native.Nat.{◌+◌, ◌-◌, ◌/◌}
use mathlib.Core.Path.{sym, ap, ◌∙◌}
use native.Mathlib.Omega.{arith}
use Rattle.loc_leaf.proofs.RowLaws.{rows_are, rows_room, row_room, halves_begin, halves_up, halves_down, halve_done}
use Rattle.loc_leaf.specs.Rows.{rows_up_to_by_halves}
use Rattle.loc_leaf.proofs.delta_loc.rows_up_to.Goals as goal

pub loop-lo-init : goal.loop-lo-init
loop-lo-init c = (omega arith, omega arith, halves_begin _ _ _ _)

-- the middle row lies within the area
pub overflow_mul-width : goal.overflow_mul-width
overflow_mul-width c =
    omega (arith, row_room _ _ (c.loop-lo.lo + (c.loop-lo.hi - c.loop-lo.lo) / 2) _ (rows_room c.args.kind c.args.rows.now _ _ c.row_width-width.ensures.0 c.row_count-hi.ensures) (omega arith))

pub overflow_add-width : goal.overflow_add-width
overflow_add-width c =
    omega (arith, row_room _ _ (c.loop-lo.lo + (c.loop-lo.hi - c.loop-lo.lo) / 2) _ (rows_room c.args.kind c.args.rows.now _ _ c.row_width-width.ensures.0 c.row_count-hi.ensures) (omega arith))

pub loop-lo-preserved-then-u64_at-n : goal.loop-lo-preserved-then-u64_at-n
loop-lo-preserved-then-u64_at-n c = (omega arith, omega arith, halves_up _ c.row_width-width.ensures.1 _ _ _ _ _ c.loop-lo.invariant.2 c.loop-lo-test.true c.loop-lo.invariant.1 _ c.u64_at.ensures c.if-u64_at-n.true)

pub loop-lo-preserved : goal.loop-lo-preserved
loop-lo-preserved c = (omega arith, omega arith, halves_down _ c.row_width-width.ensures.1 _ _ _ _ _ c.loop-lo.invariant.2 c.loop-lo-test.true c.loop-lo.invariant.1 _ c.u64_at.ensures c.if-u64_at-n.false)

pub returns : goal.returns
returns c = (halve_done _ _ _ _ _ c.loop-lo.invariant.2 c.loop-lo-test.false ∙ ap (rows_up_to_by_halves _) (sym (rows_are c.args.kind c.args.rows.now _ _ c.row_width-width.ensures.0 c.row_count-hi.ensures)), omega (arith, c.row_count-hi.ensures))
