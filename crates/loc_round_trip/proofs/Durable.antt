-- withheld_ovf_limit over histories with listings, proved: the areas hold the book's list wherever no opening is awaited.
-- What it says of areas that hold a list is loc_history's.
use mathlib.Core.List.{[]}
use Rattle.loc_leaf.specs.declared.Kind.TheVariants.{Paired}
use Rattle.loc_calls.specs.Areas.{sizes}
use Rattle.loc_calls.specs.Calls.{create}
use Rattle.loc_history.proofs.Durable.{limit}
use Rattle.loc_round_trip.specs.Listings.{any_index_at_end, any_book_at_end}
use Rattle.loc_round_trip.specs.Durable.{WithheldOfListings}
use Rattle.loc_round_trip.proofs.Listings.{steady_at_end}

pub withheld_of_listings : WithheldOfListings
unfolding WithheldOfListings
withheld_of_listings a z es lawful q = limit Paired (any_index_at_end (create a).areas es) (any_book_at_end (sizes a) [] es) (steady_at_end a z es lawful q)
