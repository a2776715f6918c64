-- The round trip, proved: the text of a listing says just the batch that makes the same list.
-- What the two areas list depends on that list alone.
use Prim.Native.Nat.{◌≤◌}
use mathlib.Core.Path.{◌≡◌, sym, ◌∙◌}
use mathlib.Core.List.{List, []}
use native.Mathlib.Omega.{arith}
use lib.ListN.{length}
use Rattle.loc_leaf.specs.declared.Kind.TheVariants.{Paired}
use Rattle.loc_calls.specs.Areas.{Areas, sizes}
use Rattle.loc_calls.specs.Calls.{create}
use Rattle.loc_history.specs.Book.{Rec}
use Rattle.loc_history.specs.History.{AllSized, Stores}
use Rattle.loc_history.proofs.Steady.{Steady, same_length}
use Rattle.loc_history.proofs.History.{created_steady, steady_stores}
use Rattle.loc_listing.specs.Listing.{listing}
use Rattle.loc_parse.specs.Import.{append_listing}
use Rattle.loc_round_trip.specs.Listings.{any_index_at_end, any_book_at_end}
use Rattle.loc_round_trip.specs.RoundTrip.{Enough, Returns, RoundTrip, RoundTripOfHistory}
use Rattle.loc_round_trip.proofs.Printed.{listing_is}
use Rattle.loc_round_trip.proofs.Placed.{stores_steady}
use Rattle.loc_round_trip.proofs.Listings.{steady_at_end}
use Rattle.loc_round_trip.proofs.Taken.{text_of, taken, text_appends, Takes, list_taken, room_kept}

-- areas that hold a list, and an empty index b with room for it
module _ (a : Areas) (L : List Rec) (t : Steady Paired a L) (few : length L ≤ 1024) (b : Areas) (o : Steady Paired b []) (room : Enough L b) where
  text_is : listing a ≡ text_of t.E
  text_is = listing_is a t.E t.full t.good

  appended : append_listing 4 (listing a) b ≡ taken t.E b
  appended = rw text_is (text_appends t.E t.full.valid t.good (omega (arith, same_length Paired a L t)) b o 4)

  takes : Takes L t.E b
  takes = list_taken L t.E t.is t.full.valid t.good b o room

  here : Stores Paired a L
  here = steady_stores Paired a L t

  there : Stores Paired (taken t.E b).areas L
  there = steady_stores Paired (taken t.E b).areas L takes.steady

  returns : Returns L a b
  returns = record {
    accepted = rw appended takes.answers;
    holds = rw appended there;
    lists = rw appended (takes.lists ∙ sym text_is);
    lengths = rw appended (there.ends ∙ sym here.ends);
    bytes = rw appended (there.pieces ∙ sym here.pieces);
  }

-- ---- a fresh index

from_steady : (b : Areas) → AllSized b → (L : List Rec) → Enough L b → (a : Areas) → Steady Paired a L → length L ≤ 1024 → Returns L a (create b).areas
from_steady b z L room a t few = returns a L t few (create b).areas (created_steady b z Paired) (room_kept b z L room)

pub round_trip : RoundTrip
unfolding RoundTrip
round_trip L few v below a za t b zb room = from_steady b zb L room a (stores_steady L v below a za t) few

pub round_trip_of_history : RoundTripOfHistory
unfolding RoundTripOfHistory
round_trip_of_history a za es lawful q few b zb room =
    from_steady b zb (any_book_at_end (sizes a) [] es) room (any_index_at_end (create a).areas es) (steady_at_end a za es lawful q) few
