-- `batch::check_batch` meets its contract.
use Rattle.std.specs.Prelude.{length}
use Rattle.loc_calls.specs.Lent.{lists}
use Rattle.loc_batch.proofs.BatchLaws.{Passed}
use Rattle.loc_batch.specs.Lists.{entry_at, as_entry}
use Rattle.loc_batch.proofs.batch.check_batch.Given as goal

abbrev pub invariant-loop-i : goal.invariant-loop-i
invariant-loop-i l = Passed l.kind (entry_at l.kind (lists l.b)) (length l.b.lens.now) (as_entry l.e) l.rows l.i
