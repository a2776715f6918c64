-- `loc_answer::words::WindowSums::put_run` meets its contract.
-- The invariant: the keys before t are answered.
use Rattle.std.proofs.Common.{rules}
use Rattle.loc_answer.proofs.PutLaws.{run_more}
use Rattle.loc_answer.proofs.words.WindowSums.put_run.Goals as goal

pub loop-t-preserved : goal.loop-t-preserved
loop-t-preserved c = search (rules, run_more)
