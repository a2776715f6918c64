-- `loc_listing::names::names_text` meets its contract.
use Rattle.loc_listing.specs.Text.{names}
use Rattle.loc_listing.proofs.NamesLaws.{names_none, names_put}
use Rattle.loc_listing.proofs.names.names_text.Goals as goal

pub returns-then-out : goal.returns-then-out
returns-then-out c = names_none _ c.if-out.true

pub returns : goal.returns
unfolding names
returns c = names_put _ _ _ c.if-out.false c.put_bytes.ensures
