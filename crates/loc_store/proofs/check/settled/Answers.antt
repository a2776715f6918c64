-- `loc_store::check::settled` meets its contract.
-- A law for each way through the tests.
use borrow.Author.Rules.{rules}
use Rattle.loc_store.proofs.SettledLaws.{unopened, windows_unlike, row_past_count, cut_decides_it}
use Rattle.loc_store.proofs.check.settled.Goals as goal

pub returns-then-is_err : goal.returns-then-is_err
returns-then-is_err c = search (rules, unopened, c.open_refusal.ensures)

pub returns-then-p-count : goal.returns-then-p-count
returns-then-p-count c = search (rules, windows_unlike, c.open_refusal.ensures)

pub returns-then-last-count : goal.returns-then-last-count
returns-then-last-count c = search (rules, cut_decides_it, c.open_refusal.ensures)

pub returns-else-last-count : goal.returns-else-last-count
returns-else-last-count c = search (rules, row_past_count, c.open_refusal.ensures)
