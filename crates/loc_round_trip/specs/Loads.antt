-- Loads in an index (document 02, Item 6): the load of a seed is a lawful batch, and an empty index with enough space takes it in one append.
-- It then reads as the book of these records does, and lists the load's text. The text of at most 1,024 records is read as that append.
use Rattle.std.specs.Prelude.{ℕ, ◌+◌, ◌*◌, ◌/◌, ◌^◌, ◌≤◌, ◌<◌, ◌≡◌, List, [], length}
use Rattle.loc_leaf.specs.declared.Kind.TheVariants.{Paired}
use Rattle.loc_leaf.specs.Answers.{answer}
use Rattle.loc_calls.specs.Areas.{Areas, sizes}
use Rattle.loc_calls.specs.Table.{append, read}
use Rattle.loc_calls.specs.Calls.{call, create}
use Rattle.loc_history.specs.Book.{Rec, Reply, book_reply}
use Rattle.loc_history.specs.History.{LawfulCall, AllSized, Stores}
use Rattle.loc_listing.specs.Listing.{listing}
use Rattle.loc_parse.specs.Lines.{parsed_as, parsed}
use Rattle.loc_parse.specs.Import.{append_listing}
use Rattle.loc_load.specs.Load.{load, load_batch, load_listing}
use Rattle.loc_round_trip.specs.RoundTrip.{Enough}

-- the areas after its append
abbrev pub loaded : ℕ → ℕ → Areas → Areas
loaded seed n b = (call Paired 4 (append (load_batch seed n)) b).areas

-- the premise of demand 3 holds; it is accepted whole; the areas hold it and nothing else; every reading is the book's; the listing is the load's
pub record TakesLoad (seed n : ℕ) (b : Areas) : Type 0 where
  pub lawful : LawfulCall Paired (sizes b) [] (append (load_batch seed n))
  pub accepted : (call Paired 4 (append (load_batch seed n)) b).answer ≡ answer 0 n
  pub holds : Stores Paired (loaded seed n b) (load seed n)
  pub reads : (ids out : List ℕ)
      → ◌≡◌ {A = Reply} (record { answer = (call Paired 0 (read ids out) (loaded seed n b)).answer; buffer = (call Paired 0 (read ids out) (loaded seed n b)).buffer })
      (book_reply Paired (sizes b) (load seed n) (read ids out))
  pub lists : listing (loaded seed n b) ≡ load_listing seed n

-- a record has at most 2,400 bytes of body, and of spans: so the ends of n records stay below 2^64
abbrev pub EndsFit : ℕ → Type 0
EndsFit n = 16 + 2400 * n < 2 ^ 64

-- for every seed, and any empty index
unfoldable pub LoadTaken : Type 0
LoadTaken =
    (seed n : ℕ) → EndsFit n
    → (b : Areas) → AllSized b → Stores Paired b [] → Enough (load seed n) b
    → TakesLoad seed n b

-- a creation leaves such an index
unfoldable pub LoadTakenFresh : Type 0
LoadTakenFresh =
    (seed n : ℕ) → EndsFit n
    → (b : Areas) → AllSized b → Enough (load seed n) b
    → TakesLoad seed n (create b).areas

-- the listing reader gives these records, and the listing's append is the batch's, at every number of places
pub record ReadsLoad (seed n : ℕ) : Type 0 where
  pub says : parsed 0 (load_listing seed n) ≡ parsed_as 0 (load_batch seed n)
  pub appends : (b : Areas) → AllSized b → Stores Paired b [] → (s : ℕ) → append_listing s (load_listing seed n) b ≡ call Paired s (append (load_batch seed n)) b

unfoldable pub LoadRead : Type 0
LoadRead = (seed n : ℕ) → n ≤ 1024 → ReadsLoad seed n

-- what is enough for any n records
pub record RoomFor (n : ℕ) (b : Areas) : Type 0 where
  pub slots : 16 + 2 * n ≤ length b.slots
  pub rows : 16 + 16 * n ≤ length b.rows
  pub checkpoints : 16 + 16 * (n / 1024) ≤ length b.checkpoints

unfoldable pub RoomEnough : Type 0
RoomEnough = (L : List Rec) (b : Areas) → RoomFor (length L) b → Enough L b
