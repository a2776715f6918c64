-- The round trip (document 02, Item 1): the listing of an index, read into a fresh index of enough space, lists the same.
-- Claimed of every index of at most 1,024 records that demand 3 covers; document 02 asks it of 1,023.
use Rattle.std.specs.Prelude.{◌/◌, ◌%◌, ◌^◌, ◌≤◌, ◌<◌, ◌≡◌, false, List, [], ◌∷◌, length}
use Rattle.loc_leaf.specs.declared.Kind.TheVariants.{Paired}
use Rattle.loc_leaf.specs.Bytes.{Bytes}
use Rattle.loc_leaf.specs.Answers.{answer}
use Rattle.loc_leaf.specs.Area.{counted, published}
use Rattle.loc_calls.specs.Areas.{Three, each, Areas, sizes}
use Rattle.loc_calls.specs.Calls.{create}
use Rattle.loc_history.specs.Book.{Rec, book_ends}
use Rattle.loc_history.specs.History.{EndsBelow, AllSized, Stores}
use Rattle.loc_listing.specs.Listing.{listing}
use Rattle.loc_parse.specs.Import.{append_listing}
use Rattle.loc_round_trip.specs.Listings.{AnyEvent, any_index_at_end, any_book_at_end, any_awaits, AllLawful}

-- a record that append takes: 8, 22, 9 and 10 do not turn it away
pub record Storable (r : Rec) : Type 0 where
  pub whole : r.len % 8 ≡ 0
  pub some : 0 < r.len
  pub strides : r.len / 8 < 2 ^ 32
  pub spans : 0 < r.spans
  pub narrow : r.spans < 2 ^ 32

unfoldable pub AllStorable : List Rec → Type 0
AllStorable [] = Unit
AllStorable (r ∷ L) = Storable r × AllStorable L

-- areas in which a list has room
pub record Enough (L : List Rec) (b : Areas) : Type 0 where
  pub slots : (book_ends Paired L).slots ≤ length b.slots
  pub rows : (book_ends Paired L).rows ≤ length b.rows
  pub checkpoints : (book_ends Paired L).checkpoints ≤ length b.checkpoints

-- the published bytes, in pieces
abbrev pub published_in : Areas → Three (List Bytes)
published_in a = record { slots = published 2 a.slots; rows = published 16 a.rows; checkpoints = published 16 a.checkpoints }

-- the listing of a, appended to b: accepted, with the count as its value; b then holds the list, lists what a lists, and publishes the same bytes
pub record Returns (L : List Rec) (a b : Areas) : Type 0 where
  pub accepted : (append_listing 4 (listing a) b).answer ≡ answer 0 (length L)
  pub holds : Stores Paired (append_listing 4 (listing a) b).areas L
  pub lists : listing (append_listing 4 (listing a) b).areas ≡ listing a
  pub lengths : each counted (append_listing 4 (listing a) b).areas ≡ each counted a
  pub bytes : published_in (append_listing 4 (listing a) b).areas ≡ published_in a

-- for every list of such records, and areas that store it
unfoldable pub RoundTrip : Type 0
RoundTrip =
    (L : List Rec) → length L ≤ 1024 → AllStorable L → EndsBelow Paired L
    → (a : Areas) → AllSized a → Stores Paired a L
    → (b : Areas) → AllSized b → Enough L b
    → Returns L a (create b).areas

-- for every lawful history, listings among its events, at whose end no opening is awaited
unfoldable pub RoundTripOfHistory : Type 0
RoundTripOfHistory =
    (a : Areas) → AllSized a → (es : List AnyEvent) → AllLawful (sizes a) false [] es → any_awaits false es ≡ false
    → length (any_book_at_end (sizes a) [] es) ≤ 1024
    → (b : Areas) → AllSized b → Enough (any_book_at_end (sizes a) [] es) b
    → Returns (any_book_at_end (sizes a) [] es) (any_index_at_end (create a).areas es) (create b).areas
