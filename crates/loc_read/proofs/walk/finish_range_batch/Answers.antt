-- `loc_read::walk::finish_range_batch` meets its contract.
-- Between windows: what is answered, and that the rows passed are those up to the last window's end.
use Rattle.std.proofs.Common.{ℕ, ◌+◌, ◌*◌, [], refl, ap, ◌∙◌, arith}
use Rattle.std.proofs.lemmas.List.{length-replicate}
use Rattle.loc_leaf.specs.Kind.{window_of}
use Rattle.loc_calls.specs.Lent.{seen}
use Rattle.loc_window.specs.Planned.{planned}
use Rattle.loc_window.proofs.PlannedLaws.{none_passed}
use Rattle.loc_window.proofs.StepLaws.{slot_lack}
use Rattle.loc_window.proofs.SummingLaws.{summing_asks, summed_all}
use Rattle.loc_window.proofs.CheckpointLaws.{end_of_bodies, end_of_spans}
use Rattle.loc_runs.proofs.RunLaws.{key_there}
use Rattle.loc_read.proofs.WindowLaws.{summing_planned, arrays_summed}
use Rattle.loc_read.proofs.WalkLaws.{Turn, ordered_keys, turn, planned_past, passing_none, turn_few, turn_room, turn_low, turn_lacks, turn_safe, passing_next, finished_17, finished_0}
use Rattle.loc_read.proofs.walk.finish_range_batch.Goals as goal
use Rattle.loc_read.proofs.walk.finish_range_batch.Goals.{After-plan_window-window}

-- the window's turn, once it is planned
here : (c : After-plan_window-window)
    → Turn c.args.kind (seen c.args.a) c.args.found.count c.args.found.row_count c.args.wanted.now c.args.keys.now c.windows.i c.run_at-run.result.end (c.windows.i + 1) c.run_at-run.new.mark c.plan_window-window.result
here c =
    turn _ _ _ _ _ _ _ _ _ _ c.plan_window-window.result _ _ _ _ c.plan_window-window.ensures c.loc_window-w.ensures c.wanted_by.ensures c.requires.readable
    (ordered_keys _ _ _ c.requires.wanted_len_bound.0 c.requires.wanted_len_bound.1) c.run_at-run.ensures

pub windows-init : goal.windows-init
windows-init c =
    (refl, length-replicate {A = ℕ} 2048 0, length-replicate {A = ℕ} 1025 0, length-replicate {A = ℕ} 1025 0, length-replicate {A = ℕ} 128 0, passing_none _ _ _ _ _, none_passed _ _ _ c.requires.readable.rise)

pub run_at-run-requires : goal.run_at-run-requires
run_at-run-requires c =
    (c.windows-test.true, ordered_keys _ _ _ c.requires.wanted_len_bound.0 c.requires.wanted_len_bound.1, c.windows.invariant.4)

pub wanted_by-requires : goal.wanted_by-requires
wanted_by-requires c =
    (c.windows-test.true, key_there _ _ _ (ordered_keys _ _ _ c.requires.wanted_len_bound.0 c.requires.wanted_len_bound.1) _ c.windows-test.true)

pub plan_window-window-requires : goal.plan_window-window-requires
plan_window-window-requires c =
    (c.requires.readable.rise, c.windows.invariant.6, (turn_low (turn _ _ _ _ _ _ _ _ _ _ (planned [] (1024 * c.loc_window-w.result) c.run_at-run.result.m) [] _ _ _ refl c.loc_window-w.ensures c.wanted_by.ensures c.requires.readable (ordered_keys _ _ _ c.requires.wanted_len_bound.0 c.requires.wanted_len_bound.1) c.run_at-run.ensures)).0)

pub overflow_mul-window : goal.overflow_mul-window
overflow_mul-window c = omega (arith, turn_low (here (goal.at.overflow_mul-window c).After-plan_window-window))

pub overflow_add-window : goal.overflow_add-window
overflow_add-window c = omega (arith, turn_low (here (goal.at.overflow_add-window c).After-plan_window-window))

pub overflow_mul-window-in-windows : goal.overflow_mul-window-in-windows
overflow_mul-window-in-windows c = omega (arith, turn_few (here (goal.at.overflow_mul-window-in-windows c).After-plan_window-window))

pub copy_slots-requires : goal.copy_slots-requires
copy_slots-requires c =
    let u = here (goal.at.copy_slots-requires c).After-plan_window-window in
    (turn_room u, omega (arith, turn_few u, c.windows.invariant.1))

pub loop-s-init : goal.loop-s-init
loop-s-init c =
    let u = here (goal.at.loop-s-init c).After-plan_window-window in
    (c.windows.invariant.0, summing_planned _ _ _ _ _ _ _ _ _ _ c.plan_window-window.result c.plan_window-window.ensures (turn_few u) (turn_low u).0 c.requires.readable.rise (c.copy_slots.auto.out ∙ c.windows.invariant.1) c.windows.invariant.2 c.windows.invariant.3)

pub overflow_mul-s : goal.overflow_mul-s
overflow_mul-s c = omega (arith, c.loop-s.invariant.1.bound, c.loop-s.invariant.1.ready.few)

pub slot_step-requires-clause-mark_len : goal.slot_step-requires-clause-mark_len
slot_step-requires-clause-mark_len c =
    (summing_asks _ _ _ _ _ _ _ _ _ _ _ _ _ c.loop-s.invariant.1 (c.run_at-run.auto.mark ∙ c.windows.invariant.4) c.loop-s-test.true).0

pub slot_step-requires-clause-sums_stored : goal.slot_step-requires-clause-sums_stored
slot_step-requires-clause-sums_stored c =
    (summing_asks _ _ _ _ _ _ _ _ _ _ _ _ _ c.loop-s.invariant.1 (c.run_at-run.auto.mark ∙ c.windows.invariant.4) c.loop-s-test.true).1

pub put_run-requires : goal.put_run-requires
put_run-requires c =
    let u = here (goal.at.put_run-requires c).After-plan_window-window in
    let v = c.loop-s.invariant.1 in
    let w = arrays_summed _ _ _ _ _ _ _ _ _ _ (summed_all _ _ _ _ _ _ _ _ _ _ _ _ _ v c.loop-s-test.false) refl v.body_long v.span_long in
    turn_safe u _ _ c.copy_slots.ensures _ _ w _ (omega (arith, c.requires.wanted_len_bound.2, c.windows.invariant.5.long))

pub overflow_add-end : goal.overflow_add-end
overflow_add-end c = omega (arith, turn_low (here (goal.at.overflow_add-end c).After-plan_window-window))

pub windows-preserved : goal.windows-preserved
windows-preserved c =
    let u = here (goal.at.windows-preserved c).After-plan_window-window in
    let v = c.loop-s.invariant.1 in
    let w = arrays_summed _ _ _ _ _ _ _ _ _ _ (summed_all _ _ _ _ _ _ _ _ _ _ _ _ _ v c.loop-s-test.false) refl v.body_long v.span_long in
    let first = c.loc_window-w.ensures ∙ ap window_of c.wanted_by.ensures in (
      c.loop-s.invariant.0,
      c.copy_slots.auto.out ∙ c.windows.invariant.1,
      v.body_long,
      v.span_long,
      c.run_at-run.auto.mark ∙ c.windows.invariant.4,
      passing_next u _ _ c.copy_slots.ensures _ _ w _ _ (end_of_bodies _ _ _ _ _ (c.window_end.ensures _ _) first) (end_of_spans _ _ _ _ _ (c.window_end-in-windows.ensures _ _) first) _ _ _ c.windows.invariant.5 c.put_run.ensures,
      planned_past _ _ _ c.plan_window-window.result c.plan_window-window.ensures,
    )

pub returns-after-windows : goal.returns-after-windows
returns-after-windows c =
    rw c.windows.invariant.0 (finished_0 _ _ _ _ _ c.requires.wanted_len_bound.0 c.requires.readable.counted c.requires.wanted_len_bound.1 _ _ _ c.windows.invariant.5 (omega (arith, c.windows-test.false)) c.requires.wanted_len_bound.3)

pub returns-in_default : goal.returns-in_default
returns-in_default c =
    let u = here (goal.at.returns-in_default c).After-plan_window-window in
    finished_17 _ _ _ _ (turn_lacks u _ _ c.copy_slots.ensures (slot_lack _ _ _ _ _ _ _ _ _ _ _ c.slot_step.ensures c.in_default.is))
