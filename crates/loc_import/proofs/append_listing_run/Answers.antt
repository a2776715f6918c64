-- `loc_import::append_listing_run` meets its contract.
-- A refusal leaves the areas; else the listing is appended as the batch that the text says.
use mathlib.Core.Path.{refl}
use borrow.Author.Rules.{rules}
use Rattle.std.proofs.lemmas.Result.{err_from_is_err_and}
use Rattle.loc_import.proofs.TextLaws.{first_refused, text_refused, text_appended}
use Rattle.loc_import.proofs.append_listing_run.Goals as goal

pub returns-in_err-found : goal.returns-in_err-found
returns-in_err-found c = search (rules, first_refused)

pub returns-in_err-parse : goal.returns-in_err-parse
returns-in_err-parse c =
    let p = err_from_is_err_and c.from_residual-in_err-parse.result c.from_residual-in_err-parse.ensures.1 in
    rw (p.1, p.2) (text_refused _ _ _ _ c.shared.ensures _ c.in_ok-found.ensures _ _ c.in_err-parse.ensures, (refl, refl, refl))

pub append_settled-requires : goal.append_settled-requires
append_settled-requires c = rw c.shared.ensures at c.in_ok-found.ensures

pub returns : goal.returns
returns c = (
  text_appended _ _ _ _ c.shared.ensures _ c.in_ok-found.ensures _ _ c.in_ok-parse.ensures c.batch.ensures _ _ c.append_settled.ensures.0,
  c.append_settled.ensures.1,
)
