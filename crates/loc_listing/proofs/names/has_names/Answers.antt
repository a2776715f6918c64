-- `loc_listing::names::has_names` meets its contract.
use mathlib.Core.Path.{◌∙◌}
use Rattle.loc_listing.specs.Text.{names}
use Rattle.loc_listing.proofs.NamesLaws.{begins_is}
use Rattle.loc_listing.proofs.names.has_names.Goals as goal

pub returns : goal.returns
unfolding names
returns c = c.starts_with.ensures.value ∙ begins_is names _
