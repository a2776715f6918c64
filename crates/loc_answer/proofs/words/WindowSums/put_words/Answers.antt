-- `loc_answer::words::WindowSums::put_words` meets its contract.
use Rattle.std.proofs.Common.{rules}
use Rattle.loc_answer.proofs.PutLaws.{put_paired, put_single}
use Rattle.loc_answer.proofs.words.WindowSums.put_words.Goals as goal

pub returns-in-Paired : goal.returns-in-Paired
returns-in-Paired c = search (rules, put_paired)

pub returns-in-Single : goal.returns-in-Single
returns-in-Single c = search (rules, put_single)
