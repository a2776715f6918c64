-- `loc_window::plan::passes` meets its contract.
use native.Mathlib.Omega.{arith}
use Rattle.loc_leaf.proofs.RowLaws.{rows_count}
use Rattle.loc_window.proofs.PlannedLaws.{counts}
use Rattle.loc_window.proofs.plan.passes.Goals as goal

pub returns : goal.returns
returns c =
    counts _ c.requires.0 _ _ _ _ (omega (arith, c.requires.1, rows_count c.args.kind c.args.rows.now)) c.row_number.ensures c.from.ensures
