-- `loc_store::truncate::truncate_run` meets its contract.
-- A refusal leaves the areas; else the plan is that of the areas at entry, and the run is over its places.
use mathlib.Core.Path.{refl}
use native.Mathlib.Omega.{arith}
use borrow.Author.Rules.{rules}
use Rattle.loc_store.proofs.CallLaws.{truncate_refused, truncate_past, truncate_done}
use Rattle.loc_store.proofs.SettledLaws.{accepted_sized, accepted_ascends}
use Rattle.loc_store.proofs.truncate.truncate_run.Goals as goal

pub returns-in_err-found : goal.returns-in_err-found
returns-in_err-found c = search (rules, truncate_refused)

pub returns-then-found-count : goal.returns-then-found-count
returns-then-found-count c = (
  truncate_past _ _ _ _ _ c.shared-a.ensures _ c.in_ok-found.ensures c.if-found-count.true,
  (refl, refl, refl),
)

pub lengths-plan-requires : goal.lengths-plan-requires
lengths-plan-requires c = (
  omega (arith, c.in_ok-found.ensures.found.room),
  (accepted_sized _ _ c.in_ok-found.ensures.number).rows_hold,
  accepted_ascends _ _ c.in_ok-found.ensures.number,
)

pub returns : goal.returns
returns c = (
  truncate_done _ _ _ _ _ c.shared-a.ensures _ c.in_ok-found.ensures _ _ _ _ c.if-found-count.false c.lengths-plan.ensures.0
      c.store_run.ensures.0 c.shared.ensures c.published.ensures.count,
  c.store_run.ensures.1,
)
