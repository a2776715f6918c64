-- `recover` meets its contract.
-- Each call's promise begins where the one before left the areas.
use borrow.Author.Rules.{rules}
use Rattle.loc_recovery.proofs.RecoveryLaws.{recovered}
use Rattle.loc_recovery.proofs.recover.Goals as goal

pub returns : goal.returns
returns c = (
  recovered _ _ _ _ _ _ _ _ _ _ _ _ _ _ _ _ _
      c.create.ensures.0
      c.append-appended.ensures.0
      c.append_run.ensures.0
      c.open-opened.ensures.0
      (rw c.shared.ensures at c.range_batch-read.ensures),
  search rules,
)
