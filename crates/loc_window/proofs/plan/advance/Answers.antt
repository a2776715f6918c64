-- `loc_window::plan::advance` meets its contract.
use native.Mathlib.Omega.{arith}
use mathlib.Core.Path.{refl}
use Rattle.loc_window.proofs.RowsLaws.{few_rows}
use Rattle.loc_leaf.proofs.QuarterLaws.{near_quarters}
use Rattle.loc_window.proofs.plan.advance.Goals as goal

pub overflow_add-quarter : goal.overflow_add-quarter
overflow_add-quarter c = omega (arith, c.requires.2, few_rows c.args.kind c.args.rows.now)

pub overflow_add-from : goal.overflow_add-from
overflow_add-from c = omega (arith, c.requires.1, c.requires.2, few_rows c.args.kind c.args.rows.now)

pub overflow_add-from-2 : goal.overflow_add-from-2
overflow_add-from-2 c = omega (arith, c.requires.1, c.requires.2, few_rows c.args.kind c.args.rows.now)

pub overflow_add-from-3 : goal.overflow_add-from-3
overflow_add-from-3 c = omega (arith, c.requires.1, c.requires.2, few_rows c.args.kind c.args.rows.now)

pub overflow_add-result-3 : goal.overflow_add-result-3
overflow_add-result-3 c =
    omega (arith, (near_quarters _ _ _ _ c.requires.1 refl c.requires.3 _ _ _ c.passes-one.ensures c.passes-two.ensures c.passes-three.ensures).0, c.requires.2, few_rows c.args.kind c.args.rows.now)
