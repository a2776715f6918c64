-- `staging::write_checkpoint` meets its contract.
use borrow.Author.Rules.{rules}
use Rattle.loc_batch.proofs.StageLaws.{checkpoint_room, checkpoint_written, checkpoint_passed}
use Rattle.loc_batch.proofs.staging.write_checkpoint.Goals as goal

pub returns-then-id-ne0 : goal.returns-then-id-ne0
returns-then-id-ne0 c = search (rules, checkpoint_passed)

pub put_checkpoint-requires : goal.put_checkpoint-requires
put_checkpoint-requires c = search (rules, checkpoint_room)

pub returns : goal.returns
returns c = search (rules, checkpoint_written)
