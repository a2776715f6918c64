-- Histories in which listings are appended too (document 02, Item 1): demand 3's claims for a paired index.
-- An accepted listing is the append that its text says, a refused one changes nothing; the book takes the text by its own count.
use Rattle.std.specs.Prelude.{ℕ, ◌≡◌, Bool, true, false, List, [], ◌∷◌, ◌++◌, length}
use Rattle.loc_leaf.specs.declared.Kind.TheVariants.{Paired}
use Rattle.loc_leaf.specs.Bytes.{Bytes}
use Rattle.loc_leaf.specs.Answers.{◌or_else◌, answer}
use Rattle.loc_calls.specs.Areas.{Three, Areas, sizes}
use Rattle.loc_calls.specs.Table.{Call, append}
use Rattle.loc_calls.specs.Stores.{write, step}
use Rattle.loc_calls.specs.Calls.{unless_refused, create}
use Rattle.loc_history.specs.Book.{Rec, records, book_refusal, Reply}
use Rattle.loc_history.specs.History.{Event, finished, torn, index_after, index_gives, book_after, book_gives, EndsBelow, Awaited, BeforeEnd, LawfulEvent, is_tear, AllSized, Stores}
use Rattle.loc_parse.specs.Lines.{Parsed, parsed}
use Rattle.loc_parse.specs.Import.{append_listing}

-- an event of demand 3; or a listing that finishes, is torn at its place s, or inside the byte stores of its append
pub data AnyEvent : Type 0 where
  event : Event → AnyEvent
  listing : List ℕ → AnyEvent
  torn_listing : ℕ → List ℕ → AnyEvent
  torn_listing_bytes : List ℕ → Three Bytes → AnyEvent

-- ---- the index

unfoldable pub index_after_any : Areas → AnyEvent → Areas
index_after_any a (event e) = index_after Paired a e
index_after_any a (listing xs) = (append_listing 4 xs a).areas
index_after_any a (torn_listing s xs) = (append_listing s xs a).areas
index_after_any a (torn_listing_bytes xs junk) = unless_refused (append_listing 4 xs a).answer.number (step (write junk) a) a

unfoldable pub index_gives_any : Areas → AnyEvent → List Reply
index_gives_any a (event e) = index_gives Paired a e
index_gives_any a (listing xs) = record { answer = (append_listing 4 xs a).answer; buffer = (append_listing 4 xs a).buffer } ∷ []
index_gives_any a (torn_listing s xs) = []
index_gives_any a (torn_listing_bytes xs junk) = []

unfoldable pub any_index_replies : Areas → List AnyEvent → List Reply
any_index_replies a [] = []
any_index_replies a (e ∷ es) = index_gives_any a e ++ any_index_replies (index_after_any a e) es

unfoldable pub any_index_at_end : Areas → List AnyEvent → Areas
any_index_at_end a [] = a
any_index_at_end a (e ∷ es) = any_index_at_end (index_after_any a e) es

-- ---- the book

-- what a text says after the records L
abbrev pub said : List Rec → List ℕ → Parsed
said L xs = parsed (length L) xs

-- the append that it says
abbrev pub as_append : List Rec → List ℕ → Call
as_append L xs = append (said L xs).batch

unfoldable pub book_after_any : Three ℕ → List Rec → AnyEvent → List Rec
book_after_any size L (event e) = book_after Paired size L e
book_after_any size L (listing xs) = unless_refused (said L xs).number (book_after Paired size L (finished (as_append L xs))) L
book_after_any size L (torn_listing s xs) = unless_refused (said L xs).number (book_after Paired size L (torn s (as_append L xs))) L
book_after_any size L (torn_listing_bytes xs junk) = L

unfoldable pub book_gives_any : Three ℕ → List Rec → AnyEvent → List Reply
book_gives_any size L (event e) = book_gives Paired size L e
book_gives_any size L (listing xs) =
    unless_refused (said L xs).number (book_gives Paired size L (finished (as_append L xs))) (record { answer = answer (said L xs).number 0; buffer = [] } ∷ [])
book_gives_any size L (torn_listing s xs) = []
book_gives_any size L (torn_listing_bytes xs junk) = []

unfoldable pub any_book_replies : Three ℕ → List Rec → List AnyEvent → List Reply
any_book_replies size L [] = []
any_book_replies size L (e ∷ es) = book_gives_any size L e ++ any_book_replies size (book_after_any size L e) es

unfoldable pub any_book_at_end : Three ℕ → List Rec → List AnyEvent → List Rec
any_book_at_end size L [] = L
any_book_at_end size L (e ∷ es) = any_book_at_end size (book_after_any size L e) es

-- ---- the premises

-- those of demand 3. A listing's span counts have 32 bits by its form, so of one that is not refused only its ends are asked
unfoldable pub LawfulListing : Three ℕ → List Rec → List ℕ → Type 0
LawfulListing size L xs = ((said L xs).number or_else book_refusal Paired size L (as_append L xs)) ≡ 0 → EndsBelow Paired (L ++ records Paired (said L xs).batch)

unfoldable pub LawfulAny : Three ℕ → Bool → List Rec → AnyEvent → Type 0
LawfulAny size waiting L (event e) = LawfulEvent Paired size waiting L e
LawfulAny size waiting L (listing xs) = Awaited waiting (as_append L xs) × LawfulListing size L xs
LawfulAny size waiting L (torn_listing s xs) = Awaited waiting (as_append L xs) × LawfulListing size L xs × BeforeEnd s (as_append L xs)
LawfulAny size waiting L (torn_listing_bytes xs junk) = Awaited waiting (as_append L xs) × LawfulListing size L xs

unfoldable pub is_any_tear : AnyEvent → Bool
is_any_tear (event e) = is_tear e
is_any_tear (listing xs) = false
is_any_tear (torn_listing s xs) = true
is_any_tear (torn_listing_bytes xs junk) = true

unfoldable pub any_awaits : Bool → List AnyEvent → Bool
any_awaits waiting [] = waiting
any_awaits waiting (e ∷ es) = any_awaits (is_any_tear e) es

unfoldable pub AllLawful : Three ℕ → Bool → List Rec → List AnyEvent → Type 0
AllLawful size waiting L [] = Unit
AllLawful size waiting L (e ∷ es) = LawfulAny size waiting L e × AllLawful size (is_any_tear e) (book_after_any size L e) es

-- ---- demand 3, with listings

-- every finished call and listing answers as the book does
unfoldable pub Demand3Listings : Type 0
Demand3Listings =
    (a : Areas) → AllSized a → (es : List AnyEvent) → AllLawful (sizes a) false [] es
    → any_index_replies (create a).areas es ≡ any_book_replies (sizes a) [] es

-- and the areas hold the book's list and nothing else wherever no opening is awaited
unfoldable pub Demand3ListingsList : Type 0
Demand3ListingsList =
    (a : Areas) → AllSized a → (es : List AnyEvent) → AllLawful (sizes a) false [] es → any_awaits false es ≡ false
    → Stores Paired (any_index_at_end (create a).areas es) (any_book_at_end (sizes a) [] es)
