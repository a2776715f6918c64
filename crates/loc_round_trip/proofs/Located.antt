-- span_at over whole histories, proved: the areas hold the book's list wherever no opening is awaited.
-- What holds of the ranges of any list holds of theirs.
use mathlib.Core.Path.{◌∙◌}
use mathlib.Core.List.{List, []}
use Rattle.loc_leaf.specs.declared.Kind.TheVariants.{Paired}
use Rattle.loc_calls.specs.Areas.{Areas, sizes}
use Rattle.loc_calls.specs.Calls.{create}
use Rattle.loc_history.specs.Book.{Rec}
use Rattle.loc_history.proofs.Steady.{Steady}
use Rattle.loc_history.proofs.Calls.{words_book}
use Rattle.loc_history.proofs.Located.{located_book, only_record, every, outside}
use Rattle.loc_round_trip.specs.Listings.{any_index_at_end, any_book_at_end}
use Rattle.loc_round_trip.specs.Located.{Locates, SpanAtOfHistories}
use Rattle.loc_round_trip.proofs.Listings.{steady_at_end}

locates : (a : Areas) (L : List Rec) → Steady Paired a L → Locates a L
locates a L t = record {
  book = located_book a L t;
  only = λ x id. rw (words_book Paired a L t, located_book a L t x) (only_record L x id);
  every = λ x l g. rw (located_book a L t x) (every L x l g);
  outside = λ x o. located_book a L t x ∙ outside L x o;
}

pub span_at_of_histories : SpanAtOfHistories
unfolding SpanAtOfHistories
span_at_of_histories a z es lawful q = locates (any_index_at_end (create a).areas es) (any_book_at_end (sizes a) [] es) (steady_at_end a z es lawful q)
