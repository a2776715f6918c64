-- The parts by the theorem, and the book's side computed: its length at the end, and its answer there.
-- Only the length of the book's list counts.
use Prim.Native.Nat.{ℕ}
use mathlib.Core.Path.{◌≡◌, refl}
use mathlib.Core.Bool.{false}
use mathlib.Core.List.{List, []}
use native.Mathlib.Omega.{arith}
use lib.ListN.{replicate}
use Rattle.loc_calls.specs.Areas.{sizes}
use Rattle.loc_calls.specs.Parts.{some_below, those_below, reaches, needed, strange, comes_before, misplaced, first_fault, pairs_refusal, parts_table, written}
use Rattle.loc_history.specs.Book.{book_parts}
use Rattle.loc_history.specs.History.{is_tear}
use Rattle.loc_round_trip.specs.Listings.{AnyEvent, any_book_at_end, is_any_tear, any_awaits, AllLawful}
use Rattle.loc_round_trip.specs.Composed.{PartsOfHistories}
use Rattle.loc_round_trip.proofs.Composed.{parts_of_histories}
use Rattle.loc_premises.specs.Replies.{small}
use Rattle.loc_premises.specs.Composed.{four_appended, three_kept, composites, components, at, Composed}
use Rattle.loc_premises.proofs.Examples.{everything, computed}
use Rattle.loc_premises.proofs.Listed.{listings}

pub four_lawful : AllLawful (sizes small) false [] four_appended
unfolding listings
four_lawful = (((λ p. p), ((omega arith, (omega arith, tt)), λ _. (omega arith, omega arith))), (((λ p. p), ((omega arith, (omega arith, tt)), λ _. (omega arith, omega arith))), tt))

three_lawful : AllLawful (sizes small) false [] three_kept
unfolding listings
three_lawful = (
  ((λ p. p), ((omega arith, (omega arith, tt)), λ _. (omega arith, omega arith))),
  (((λ p. p), ((omega arith, (omega arith, tt)), λ _. (omega arith, omega arith))), (((λ p. p), tt), tt)),
)

by_book : (es : List AnyEvent) → AllLawful (sizes small) false [] es → any_awaits false es ≡ false → (x : ℕ) → at es x ≡ book_parts (any_book_at_end (sizes small) [] es) composites components x (replicate 4 9)
unfolding PartsOfHistories
by_book es l q x = parts_of_histories small computed.sized es l q composites components x (replicate 4 9)

pub composed : Composed
unfolding Composed everything listings any_book_at_end any_awaits is_any_tear is_tear book_parts some_below those_below reaches needed strange comes_before misplaced first_fault pairs_refusal parts_table written
composed = (by_book four_appended four_lawful refl 4, by_book four_appended four_lawful refl 3, by_book three_kept three_lawful refl 3)
