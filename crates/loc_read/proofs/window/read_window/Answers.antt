-- `loc_read::window::read_window` meets its contract.
use Rattle.std.proofs.Common.{ℕ, ◌∙◌, ap, not, arith}
use Rattle.std.proofs.lemmas.List.{length-replicate}
use Rattle.loc_window.proofs.PlannedLaws.{none_passed}
use Rattle.loc_read.proofs.WalkLaws.{turn_few, turn_room, turn_low}
use Rattle.loc_read.proofs.OwnLaws.{own_low, own_turn, own_asks, own_17, own_puts, own_read}
use Rattle.loc_read.proofs.window.read_window.Goals as goal
use Rattle.loc_read.proofs.window.read_window.Goals.{After-plan_window-window}

pub plan_window-window-requires : goal.plan_window-window-requires
plan_window-window-requires c =
    (c.requires.tested.readable.rise, none_passed _ _ _ c.requires.tested.readable.rise, own_low _ _ _ _ _ c.requires.tested _ _ c.requires.mark_len.1 _ c.loc_window-w.ensures)

pub overflow_mul-window : goal.overflow_mul-window
overflow_mul-window c =
    omega (arith, (turn_low (own_turn _ _ _ _ _ c.requires.tested _ _ c.requires.mark_len.1 _ c.loc_window-w.ensures _ _ c.plan_window-window.ensures)).1)

pub overflow_add-window : goal.overflow_add-window
overflow_add-window c =
    omega (arith, (turn_low (own_turn _ _ _ _ _ c.requires.tested _ _ c.requires.mark_len.1 _ c.loc_window-w.ensures _ _ c.plan_window-window.ensures)).1)

pub overflow_mul-window-2 : goal.overflow_mul-window-2
overflow_mul-window-2 c =
    omega (arith, turn_few (own_turn _ _ _ _ _ c.requires.tested _ _ c.requires.mark_len.1 _ c.loc_window-w.ensures _ _ c.plan_window-window.ensures))

pub copy_slots-requires : goal.copy_slots-requires
copy_slots-requires c =
    let u = own_turn _ _ _ _ _ c.requires.tested _ _ c.requires.mark_len.1 _ c.loc_window-w.ensures _ _ c.plan_window-window.ensures in
    (turn_room u, omega (arith, turn_few u, length-replicate {A = ℕ} 2048 0))

pub window_sums-requires : goal.window_sums-requires
window_sums-requires c =
    own_asks _ _ _ _ _ c.requires.tested _ _ c.requires.mark_len.1 _ c.loc_window-w.ensures _ c.plan_window-window.ensures _ _ _ c.requires.mark_len.0 (c.copy_slots.auto.out ∙ length-replicate {A = ℕ} 2048 0) (length-replicate {A = ℕ} 1025 0) (length-replicate {A = ℕ} 1025 0)

pub returns-then-is_none : goal.returns-then-is_none
returns-then-is_none c =
    own_17 _ _ _ _ _ c.requires.tested _ _ c.requires.mark_len.1 _ c.loc_window-w.ensures _ c.plan_window-window.ensures _ _ c.copy_slots.ensures _ _ _ c.window_sums.ensures (c.is_none.ensures ∙ ap not c.if-is_none.true)

pub put_window-requires : goal.put_window-requires
put_window-requires c =
    own_puts _ _ _ _ _ c.requires.tested _ _ c.requires.mark_len.1 _ c.loc_window-w.ensures _ c.plan_window-window.ensures _ _ c.copy_slots.ensures _ _ _ c.window_sums.ensures (c.is_none.ensures ∙ ap not c.if-is_none.false) (c.window_sums.auto.body ∙ length-replicate {A = ℕ} 1025 0) (c.window_sums.auto.span ∙ length-replicate {A = ℕ} 1025 0)

pub returns : goal.returns
returns c =
    own_read _ _ _ _ _ c.requires.tested _ _ c.requires.mark_len.1 _ c.loc_window-w.ensures _ c.plan_window-window.ensures _ _ c.copy_slots.ensures _ _ _ c.window_sums.ensures (c.is_none.ensures ∙ ap not c.if-is_none.false) (c.window_sums.auto.body ∙ length-replicate {A = ℕ} 1025 0) (c.window_sums.auto.span ∙ length-replicate {A = ℕ} 1025 0) _ _ _ (c.window_end.ensures _ _) (c.window_end-2.ensures _ _) c.put_window.ensures
