-- parts over whole histories, proved: the areas hold the book's list wherever no opening is awaited.
-- So they publish as many records as the list has.
use mathlib.Core.List.{[]}
use Rattle.loc_calls.specs.Areas.{sizes}
use Rattle.loc_calls.specs.Calls.{create}
use Rattle.loc_history.proofs.Composed.{composed_book}
use Rattle.loc_round_trip.specs.Listings.{any_index_at_end, any_book_at_end}
use Rattle.loc_round_trip.specs.Composed.{PartsOfHistories}
use Rattle.loc_round_trip.proofs.Listings.{steady_at_end}

pub parts_of_histories : PartsOfHistories
unfolding PartsOfHistories
parts_of_histories a z es lawful q = composed_book (any_index_at_end (create a).areas es) (any_book_at_end (sizes a) [] es) (steady_at_end a z es lawful q)
