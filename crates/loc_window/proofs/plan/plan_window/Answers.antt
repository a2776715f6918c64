-- `loc_window::plan::plan_window` meets its contract.
use native.Mathlib.Omega.{arith}
use Rattle.loc_window.proofs.PlannedLaws.{none_passed}
use Rattle.loc_window.proofs.plan.plan_window.Goals as goal

pub plan_from-requires : goal.plan_from-requires
plan_from-requires c = (c.requires.0, none_passed _ _ _ c.requires.0, omega arith, c.requires.2)
