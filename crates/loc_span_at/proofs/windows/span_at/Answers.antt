-- `loc_span_at::windows::span_at` meets its contract.
use borrow.Author.Rules.{rules}
use Rattle.loc_span_at.proofs.CallLaws.{refused_first}
use Rattle.loc_span_at.proofs.windows.span_at.Goals as goal

pub returns-in_err-checked : goal.returns-in_err-checked
returns-in_err-checked c = search (rules, refused_first)
