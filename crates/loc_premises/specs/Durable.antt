-- How many records are durable at the ends of two lawful histories, one paired, one single.
-- The call itself, not the book's answer, at lengths around each row.
use Rattle.std.specs.Prelude.{ℕ, ◌≡◌, List, [], ◌∷◌}
use Rattle.loc_leaf.specs.declared.Kind.TheVariants.{Paired, Single}
use Rattle.loc_leaf.specs.Answers.{answer, Answer}
use Rattle.loc_calls.specs.Table.{append}
use Rattle.loc_calls.specs.Calls.{create}
use Rattle.loc_calls.specs.Withheld.{withheld}
use Rattle.loc_history.specs.History.{Event, finished, index_at_end}
use Rattle.loc_round_trip.specs.Listings.{any_index_at_end}
use Rattle.loc_premises.specs.Replies.{small}
use Rattle.loc_premises.specs.Lawful.{single1, single2}
use Rattle.loc_premises.specs.Composed.{four_appended}

-- of four records the second and the fourth have a row of 16 bytes
abbrev pub paired_at : ℕ → Answer
paired_at d = (withheld Paired d (any_index_at_end (create small).areas four_appended)).answer

unfoldable pub PairedDurable : Type 0
PairedDurable = (paired_at 16 ≡ answer 0 1) × (paired_at 32 ≡ answer 0 3) × (paired_at 40 ≡ answer 0 0) × (paired_at 48 ≡ answer 0 4)

-- of five records the second and the fifth have a row of 12 bytes
abbrev pub five_appended : List Event
five_appended = finished (append single1) ∷ finished (append single2) ∷ []

abbrev pub single_at : ℕ → Answer
single_at d = (withheld Single d (index_at_end Single (create small).areas five_appended)).answer

unfoldable pub SingleDurable : Type 0
SingleDurable = (single_at 15 ≡ answer 0 0) × (single_at 16 ≡ answer 0 1) × (single_at 28 ≡ answer 0 4) × (single_at 32 ≡ answer 0 0) × (single_at 40 ≡ answer 0 5)
