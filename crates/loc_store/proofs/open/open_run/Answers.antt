-- `loc_store::open::open_run` meets its contract.
-- A refusal leaves the areas; else the plan is that of the areas at entry, and the run is over its places.
use mathlib.Core.Path.{◌≡◌, sym}
use borrow.Author.Rules.{rules}
use Rattle.loc_leaf.specs.Answers.{number_of}
use Rattle.loc_calls.specs.Lent.{seen}
use Rattle.loc_calls.specs.Stores.{open_refusal}
use Rattle.loc_store.proofs.CallLaws.{open_small, open_refused, open_done}
use Rattle.loc_store.proofs.SettledLaws.{not_small, opened_ascends}
use Rattle.loc_store.proofs.open.open_run.Goals as goal

pub returns-then-too_small : goal.returns-then-too_small
returns-then-too_small c = search (rules, open_small)

pub returns-in_err-open_refusal : goal.returns-in_err-open_refusal
returns-in_err-open_refusal c =
    let e : number_of c.in_err-open_refusal.field-0.0 ≡ open_refusal c.args.kind (seen c.shared-a.result) =
    c.in_err-open_refusal.ensures _ _ c.published_areas-p.ensures in
    search (rules, open_refused)

pub rules-plan-requires-clause-hold_headers : goal.rules-plan-requires-clause-hold_headers
rules-plan-requires-clause-hold_headers c = search (rules, not_small)

pub rules-plan-requires-clause-rows_value : goal.rules-plan-requires-clause-rows_value
rules-plan-requires-clause-rows_value c = opened_ascends _ _ _ _ (sym (c.in_ok-open_refusal.ensures _ _ c.published_areas-p.ensures))

pub returns : goal.returns
returns c = (
  open_done _ _ _ _ c.shared-a.ensures _ c.too_small.ensures c.if-too_small.false (c.in_ok-open_refusal.ensures _ _ c.published_areas-p.ensures)
      _ c.published_areas-p.ensures (search rules) (search rules) (search rules) _ c.ends.ensures _ _ _ _ c.rules-plan.ensures
      c.store_rules.ensures.0 c.shared.ensures c.published.ensures.count,
  c.store_rules.ensures.1,
)
