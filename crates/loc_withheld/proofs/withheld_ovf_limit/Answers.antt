-- `loc_withheld::withheld_ovf_limit` meets its contract.
use borrow.Author.Rules.{rules}
use Rattle.loc_withheld.proofs.LimitLaws.{withheld_refused, rows_inside, withheld_accepted}
use Rattle.loc_withheld.proofs.withheld_ovf_limit.Goals as goal

pub returns-in_err-found : goal.returns-in_err-found
returns-in_err-found c = search (rules, withheld_refused)

pub limit-requires : goal.limit-requires
limit-requires c = rows_inside _ _ _ c.in_ok-found.ensures

pub returns : goal.returns
returns c = withheld_accepted _ _ _ c.in_ok-found.ensures (search rules) _ _ c.limit.ensures
