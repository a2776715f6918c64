-- Composites after their parts (document 02, Item 9), over whole histories: parts answers as the book does.
-- Number, value and whole buffer, for any pairs, record and buffer.
use Rattle.std.specs.Prelude.{ℕ, ◌≡◌, false, List, []}
use Rattle.loc_calls.specs.Areas.{Areas, sizes}
use Rattle.loc_calls.specs.Calls.{create}
use Rattle.loc_calls.specs.Parts.{parts}
use Rattle.loc_history.specs.Book.{Reply, book_parts}
use Rattle.loc_history.specs.History.{AllSized}
use Rattle.loc_round_trip.specs.Listings.{AnyEvent, any_index_at_end, any_book_at_end, any_awaits, AllLawful}

-- what the call gives
abbrev pub index_parts : Areas → List ℕ → List ℕ → ℕ → List ℕ → Reply
index_parts a cs ps x out = record { answer = (parts cs ps x out a).answer; buffer = (parts cs ps x out a).buffer }

-- for every lawful history, listings among its events, at whose end no opening is awaited
unfoldable pub PartsOfHistories : Type 0
PartsOfHistories =
    (a : Areas) → AllSized a → (es : List AnyEvent) → AllLawful (sizes a) false [] es → any_awaits false es ≡ false
    → (cs ps : List ℕ) (x : ℕ) (out : List ℕ) → index_parts (any_index_at_end (create a).areas es) cs ps x out ≡ book_parts (any_book_at_end (sizes a) [] es) cs ps x out
