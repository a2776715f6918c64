-- `file::put_le` meets its contract.
-- A byte is stored at each place that the area has.
use mathlib.Core.Path.{◌∙◌}
use native.Mathlib.Omega.{arith}
use Rattle.loc_leaf.proofs.NumberLaws.{put_turn, put_done}
use Rattle.loc_leaf.proofs.file.put_le.Goals as goal

pub loop-to-preserved : goal.loop-to-preserved
loop-to-preserved c = c.loop-to.invariant ∙ put_turn _ _ _ _ (omega arith)

pub returns : goal.returns
returns c = put_done _ _ _ _ _ c.loop-to.invariant (λ h. omega arith)
