-- `plan::reach` meets its contract.
use borrow.Author.Rules.{rules}
use mathlib.Core.Path.{refl}
use native.Mathlib.Omega.{arith}
use Rattle.std.proofs.lemmas.Result.{err_from_is_err_and}
use Rattle.loc_append.proofs.PlanLaws.{slots_inside, rows_inside, checkpoints_inside, reach_slots, reach_rows, reach_checkpoints, reach_done}
use Rattle.loc_append.proofs.plan.reach.Goals as goal

pub reach_end-requires : goal.reach_end-requires
reach_end-requires c = (slots_inside _ _ _ c.requires, omega arith)

pub returns-in_err-slots : goal.returns-in_err-slots
returns-in_err-slots c =
    let p = err_from_is_err_and c.from_residual.result c.from_residual.ensures.1 in
    rw (p.1, p.2) (reach_slots _ _ _ c.requires _ _ _ c.in_err-slots.ensures)

pub reach_end-requires-2 : goal.reach_end-requires-2
reach_end-requires-2 c = (rows_inside _ _ _ c.requires, omega arith)

pub returns-in_err-rows : goal.returns-in_err-rows
returns-in_err-rows c =
    let p = err_from_is_err_and c.from_residual-in_err-rows.result c.from_residual-in_err-rows.ensures.1 in
    rw (p.1, p.2) (reach_rows _ _ _ c.requires _ _ _ c.in_ok-slots.ensures _ c.row_width.ensures.0 _ c.in_err-rows.ensures)

pub reach_end-requires-3 : goal.reach_end-requires-3
reach_end-requires-3 c = (checkpoints_inside _ _ _ c.requires, omega arith)

pub returns-in_err-checkpoints : goal.returns-in_err-checkpoints
returns-in_err-checkpoints c =
    let p = err_from_is_err_and c.from_residual-in_err-checkpoints.result c.from_residual-in_err-checkpoints.ensures.1 in
    rw (p.1, p.2) (reach_checkpoints _ _ _ c.requires _ _ _ c.in_ok-slots.ensures _ c.row_width.ensures.0 _ c.in_ok-rows.ensures _ _ c.checkpoint_width.ensures.0 refl _ c.in_err-checkpoints.ensures)

pub returns : goal.returns
returns c =
    reach_done _ _ _ c.requires _ _ _ c.in_ok-slots.ensures _ c.row_width.ensures.0 _ c.in_ok-rows.ensures _ _ c.checkpoint_width.ensures.0 refl _ c.in_ok-checkpoints.ensures (search rules)
