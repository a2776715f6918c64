-- `loc_end::start::list_end` meets its contract.
-- The records added up are those of the last window.
use mathlib.Core.Path.{refl}
use native.Mathlib.Omega.{arith}
use borrow.Author.Rules.{rules}
use Rattle.loc_window.proofs.CheckpointLaws.{end_of_bodies}
use Rattle.loc_end.proofs.StartLaws.{walkable, sums_low, end_lacks, end_is}
use Rattle.loc_end.proofs.start.list_end.Goals as goal

pub window_total-total-requires : goal.window_total-total-requires
window_total-total-requires c = walkable _ _ _ _ _ _ c.requires.0 c.requires.1 c.loc_window-w.ensures refl refl _ (search rules) c.requires.2

pub returns-then-total-ne0 : goal.returns-then-total-ne0
returns-then-total-ne0 c = end_lacks _ _ _ _ _ _ c.requires.0 c.requires.1 c.loc_window-w.ensures refl refl _ (c.window_total-total.ensures _) c.if-total-ne0.true

pub overflow_mul-total : goal.overflow_mul-total
overflow_mul-total c = omega (arith, (sums_low _ _ _ _ _ _ c.requires.0 c.requires.1 c.loc_window-w.ensures refl refl _ (c.window_total-total.ensures _)).0)

pub span_end-requires : goal.span_end-requires
span_end-requires c = (search rules, (sums_low _ _ _ _ _ _ c.requires.0 c.requires.1 c.loc_window-w.ensures refl refl _ (c.window_total-total.ensures _)).1)

pub returns : goal.returns
returns c =
    end_is _ _ _ _ _ _ c.requires.0 c.requires.1 c.loc_window-w.ensures refl refl _ (c.window_total-total.ensures _) c.if-total-ne0.false _ _ _
    (end_of_bodies _ _ _ _ _ (c.window_end.ensures _ _) (omega arith)) c.saturating_add.ensures (c.span_end.ensures _ _)
