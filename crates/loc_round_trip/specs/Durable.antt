-- How many records are durable (document 02, Item 10), over whole paired histories with listings among their events.
-- loc_history has it of both kinds without listings.
use Rattle.std.specs.Prelude.{ℕ, ◌≡◌, false, List, []}
use Rattle.loc_leaf.specs.declared.Kind.TheVariants.{Paired}
use Rattle.loc_calls.specs.Areas.{Areas, sizes}
use Rattle.loc_calls.specs.Calls.{create}
use Rattle.loc_history.specs.History.{AllSized}
use Rattle.loc_history.specs.Durable.{Limit}
use Rattle.loc_round_trip.specs.Listings.{AnyEvent, any_index_at_end, any_book_at_end, any_awaits, AllLawful}

-- for every lawful history at whose end no opening is awaited
unfoldable pub WithheldOfListings : Type 0
WithheldOfListings =
    (a : Areas) → AllSized a → (es : List AnyEvent) → AllLawful (sizes a) false [] es → any_awaits false es ≡ false
    → (d : ℕ) → Limit Paired (any_index_at_end (create a).areas es) (any_book_at_end (sizes a) [] es) d
