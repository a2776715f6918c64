-- A load through face_import, proved: the fresh index takes it whole, so no row is missing and what is printed is its listing.
-- That listing is the load's text.
use Prim.Native.Nat.{ℕ, ◌+◌, ◌*◌, ◌≤◌}
use mathlib.Core.Path.{◌≡◌, refl, ◌∙◌}
use borrow.Author.Tests.{le-leb}
use Rattle.loc_leaf.specs.declared.Kind.TheVariants.{Paired}
use Rattle.loc_leaf.specs.Answers.{answer}
use Rattle.loc_calls.specs.Areas.{Areas, count}
use Rattle.loc_calls.specs.Calls.{unless_refused, create}
use Rattle.loc_history.specs.History.{AllSized}
use Rattle.loc_history.proofs.Steady.{count_book}
use Rattle.loc_parse.specs.Import.{append_listing}
use Rattle.loc_load.specs.Load.{load, load_entries, load_listing}
use Rattle.loc_load.specs.Request.{Asked, requested, load_text}
use Rattle.loc_load.proofs.LoadLaws.{load_length}
use Rattle.loc_load.proofs.RequestLaws.{asked_few}
use Rattle.loc_round_trip.specs.RoundTrip.{Enough}
use Rattle.loc_round_trip.specs.Loads.{RoomFor, RoomEnough}
use Rattle.loc_round_trip.proofs.Taken.{taken}
use Rattle.loc_round_trip.proofs.Loads.{room_enough, IntoFresh, load_into_fresh}
use Rattle.loc_print.specs.Printed.{printed, listing_text, shown}
use Rattle.loc_print.proofs.WholeLaws.{printed_whole}
use Rattle.loc_pipe.specs.Pipe.{Piped}

module _ (seed n : ℕ) (few : n ≤ 1024) (b : Areas) (z : AllSized b) (room : RoomFor n b) where
  enough : Enough (load seed n) b
  unfolding RoomEnough
  enough = room_enough (load seed n) b (rw (load_length seed n) room)

  into : IntoFresh seed n b
  into = load_into_fresh seed n few b z enough

  -- the index that holds the load
  abbrev full : Areas
  full = (taken (load_entries seed n) (create b).areas).areas

  count_is : count full ≡ n
  count_is = count_book Paired full (load seed n) into.takes.steady ∙ load_length seed n

  printed_is : printed full ≡ load_listing seed n
  unfolding load_listing
  printed_is = printed_whole full into.takes.steady.E into.takes.steady.full ∙ into.takes.lists

  shown_is : (second : ℕ) → 53 + 126 * n ≤ second → shown (append_listing 4 (load_listing seed n) (create b).areas) second ≡ load_listing seed n
  unfolding shown listing_text unless_refused answer
  shown_is second h = rw (into.appends, into.takes.answers, count_is, le-leb (53 + 126 * n) second h) printed_is

pub piped : Piped
unfolding Piped load_text unless_refused
piped xs e b z room first second h g =
    let q : Asked = requested xs in
    rw (e, le-leb (53 + 126 * q.records) first h) (shown_is q.seed q.records (asked_few xs q refl e) b z room second g)
