-- The history with listings computed whole from the definitions, and that it is lawful.
-- So demand 3 with listings has something to say.
use Prim.Native.Nat.{ℕ}
use mathlib.Core.Path.{◌≡◌, refl}
use mathlib.Core.Bool.{false}
use mathlib.Core.List.{[]}
use native.Mathlib.Omega.{arith}
use Rattle.loc_calls.specs.Areas.{sizes}
use Rattle.loc_calls.specs.Calls.{create}
use Rattle.loc_listing.specs.Text.{digits, decimal, line, names, begins}
use Rattle.loc_number.specs.Decimal.{goes_on, digits_on, starts_at, number_at}
use Rattle.loc_parse.specs.Lines.{◌then◌, line_at, fields_refusal, added, if_whole, lines_from, parsed}
use Rattle.loc_parse.specs.Import.{listing_refusal, append_listing}
use Rattle.loc_round_trip.specs.Listings.{index_after_any, index_gives_any, any_index_replies, book_after_any, book_gives_any, any_book_replies, LawfulListing, LawfulAny, is_any_tear, AllLawful, Demand3Listings}
use Rattle.loc_round_trip.proofs.Listings.{demand3_listings}
use Rattle.loc_premises.specs.Replies.{small}
use Rattle.loc_premises.specs.Listed.{listed_story, Listed}
use Rattle.loc_premises.proofs.Examples.{everything, computed}

-- to unfold this is to unfold all that a listing in a history is computed by
unfoldable pub listings : Type 0
unfolding everything digits decimal line names begins goes_on digits_on starts_at number_at ◌then◌ line_at fields_refusal added if_whole lines_from parsed listing_refusal append_listing index_after_any index_gives_any any_index_replies book_after_any book_gives_any any_book_replies LawfulListing LawfulAny is_any_tear AllLawful
listings = Unit

pub listed : Listed
unfolding listings Listed
listed = (refl, refl)

-- one event before another
infixr 20 ◌before◌
abbrev ◌before◌ : {A B : Type 0} → A → B → A × B
x before y = (x, y)

pub lawful : AllLawful (sizes small) false [] listed_story
unfolding listings
lawful =
    ((λ p. p), λ _. (omega arith, omega arith))
    before ((λ p. p), λ (z : ◌≡◌ {A = ℕ} 19 0). absurd (omega arith))
    before ((λ p. p), λ (z : ◌≡◌ {A = ℕ} 23 0). absurd (omega arith))
    before ((λ p. p), (λ _. (omega arith, omega arith)), omega arith)
    before ((λ p. p), tt)
    before ((λ p. p), λ _. (omega arith, omega arith))
    before ((λ p. p), tt)
    before ((λ p. p), λ (z : ◌≡◌ {A = ℕ} 22 0). absurd (omega arith))
    before ((λ p. p), λ _. (omega arith, omega arith))
    before ((λ p. p), tt)
    before tt

pub listed_by_demand3 : any_index_replies (create small).areas listed_story ≡ any_book_replies (sizes small) [] listed_story
unfolding Demand3Listings
listed_by_demand3 = demand3_listings small computed.sized listed_story lawful
