-- The addresses by the theorem, and the book's side computed: its list at the end, and its answer there.
-- Over a window's edge only the record that holds the address is computed.
use Prim.Native.Nat.{ℕ, suc}
use mathlib.Core.Path.{◌≡◌, refl, ap, ◌∙◌}
use mathlib.Core.Bool.{true, false}
use mathlib.Core.List.{List, [], ◌∷◌}
use native.Mathlib.Omega.{arith}
use lib.ListN.{replicate}
use Rattle.loc_leaf.specs.declared.Kind.TheVariants.{Paired}
use Rattle.loc_calls.specs.Areas.{sizes}
use Rattle.loc_calls.specs.Reading.{first_after}
use Rattle.loc_calls.specs.SpanAt.{holds, crossing, span_among, span_at}
use Rattle.loc_history.specs.Book.{Rec, book_words, book_span_at}
use Rattle.loc_history.specs.History.{is_tear}
use Rattle.loc_history.proofs.Located.{answer_there}
use Rattle.loc_round_trip.specs.Listings.{any_book_at_end, is_any_tear, any_awaits, AllLawful}
use Rattle.loc_round_trip.specs.Located.{Locates, SpanAtOfHistories}
use Rattle.loc_round_trip.proofs.Located.{span_at_of_histories}
use Rattle.loc_premises.specs.Replies.{small, wide}
use Rattle.loc_premises.specs.Listed.{listed_story}
use Rattle.loc_premises.specs.Located.{listed_areas, ListedLocated, long_appended, long_areas, EdgeLocated}
use Rattle.loc_premises.proofs.Examples.{narrow, everything, computed}
use Rattle.loc_premises.proofs.Listed.{listings, lawful}

-- ---- with listings and tears

abbrev held : List Rec
held = record { len = 40; spans = 3 } ∷ record { len = 2048; spans = 1 } ∷ record { len = 8; spans = 1 } ∷ record { len = 8; spans = 1 } ∷ []

held_is : any_book_at_end (sizes small) [] listed_story ≡ held
unfolding listings any_book_at_end
held_is = refl

listed_end : Locates listed_areas (any_book_at_end (sizes small) [] listed_story)
unfolding SpanAtOfHistories any_awaits is_any_tear is_tear
listed_end = span_at_of_histories small computed.sized listed_story lawful refl

by_book : (x : ℕ) → span_at listed_areas x ≡ book_span_at held x
by_book x = listed_end.book x ∙ ap (λ (L : List Rec). book_span_at L x) held_is

pub listed_located : ListedLocated
unfolding ListedLocated everything first_after holds crossing span_among book_span_at
listed_located = (by_book 39, by_book 57, by_book 64)

-- ---- over a window's edge

abbrev many : List Rec
many = replicate 1026 (record { len = 40; spans = 2 })

many_is : any_book_at_end (sizes wide) [] long_appended ≡ many
unfolding listings any_book_at_end
many_is = refl

long_lawful : AllLawful (sizes wide) false [] long_appended
unfolding listings
long_lawful = (((λ p. p), (narrow 1026 2 (omega arith), λ _. (omega arith, omega arith))), tt)

long_end : Locates long_areas (any_book_at_end (sizes wide) [] long_appended)
unfolding SpanAtOfHistories any_awaits is_any_tear is_tear
long_end = span_at_of_histories wide computed.edge_sized long_appended long_lawful refl

-- record i + 1 holds it
by_record_lem : (x i : ℕ) → holds (book_words Paired many) x (suc i) ≡ true → span_at long_areas x ≡ crossing (book_words Paired many) x (suc i)
by_record_lem x i h = long_end.book x ∙ ap (λ (L : List Rec). book_span_at L x) many_is ∙ answer_there many x i h

pub edge_located : EdgeLocated
unfolding EdgeLocated everything holds crossing
edge_located = (by_record_lem 16399 1023 refl, by_record_lem 16409 1024 refl)
