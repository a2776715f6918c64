-- Whose crossing is at an address (document 02, Item 2), over whole histories: span_at answers as the book does.
-- The record is the only one whose range holds the address, and every address from 16 up to the end of the spans has one.
use Rattle.std.specs.Prelude.{ℕ, ◌≤◌, ◌<◌, ◌≡◌, ◌⊎◌, true, false, List, []}
use Rattle.loc_leaf.specs.declared.Kind.TheVariants.{Paired}
use Rattle.loc_calls.specs.Areas.{Areas, sizes}
use Rattle.loc_calls.specs.Reading.{words_for}
use Rattle.loc_calls.specs.Calls.{create}
use Rattle.loc_calls.specs.SpanAt.{holds, refused_by, span_at}
use Rattle.loc_history.specs.Book.{Rec, span_end, book_span_at}
use Rattle.loc_history.specs.History.{AllSized}
use Rattle.loc_round_trip.specs.Listings.{AnyEvent, any_index_at_end, any_book_at_end, any_awaits, AllLawful}

-- for every address: the book's answer; no other record's range holds it; it is answered from 16 up to the end of the spans, and refused by 21 elsewhere
pub record Locates (a : Areas) (L : List Rec) : Type 0 where
  pub book : (x : ℕ) → span_at a x ≡ book_span_at L x
  pub only : (x id : ℕ) → holds (words_for Paired a) x id ≡ true → (span_at a x).«record» ≡ id
  pub every : (x : ℕ) → 16 ≤ x → x < span_end L → (span_at a x).number ≡ 0
  pub outside : (x : ℕ) → (x < 16) ⊎ (span_end L ≤ x) → span_at a x ≡ refused_by 21

-- for every lawful history, listings among its events, at whose end no opening is awaited
unfoldable pub SpanAtOfHistories : Type 0
SpanAtOfHistories =
    (a : Areas) → AllSized a → (es : List AnyEvent) → AllLawful (sizes a) false [] es → any_awaits false es ≡ false
    → Locates (any_index_at_end (create a).areas es) (any_book_at_end (sizes a) [] es)
