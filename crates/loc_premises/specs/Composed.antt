-- The parts of a record at the ends of two lawful histories, of which the second truncates: the same lists are then turned away.
-- The call itself, not the book's answer.
use Rattle.std.specs.Prelude.{ℕ, ◌≡◌, List, [], ◌∷◌, replicate}
use Rattle.loc_calls.specs.Table.{append, truncate}
use Rattle.loc_calls.specs.Calls.{create}
use Rattle.loc_history.specs.Book.{Reply}
use Rattle.loc_history.specs.History.{finished}
use Rattle.loc_round_trip.specs.Listings.{AnyEvent, event, any_index_at_end}
use Rattle.loc_round_trip.specs.Composed.{index_parts}
use Rattle.loc_premises.specs.Replies.{refuses, reads, small}
use Rattle.loc_premises.specs.Lawful.{batch1, batch2}

-- four records, of which 3 is made of 1 and 2, and 4 of 3
abbrev pub four_appended : List AnyEvent
four_appended = event (finished (append batch1)) ∷ event (finished (append batch2)) ∷ []

abbrev pub three_kept : List AnyEvent
three_kept = event (finished (append batch1)) ∷ event (finished (append batch2)) ∷ event (finished (truncate 3)) ∷ []

abbrev pub composites : List ℕ
composites = 3 ∷ 3 ∷ 4 ∷ []

abbrev pub components : List ℕ
components = 1 ∷ 2 ∷ 3 ∷ []

abbrev pub at : List AnyEvent → ℕ → Reply
at es x = index_parts (any_index_at_end (create small).areas es) composites components x (replicate 4 9)

-- of record 4; of record 3 after the truncation, since the pairs name a record that is gone
unfoldable pub Composed : Type 0
Composed = (at four_appended 4 ≡ reads 3 (1 ∷ 2 ∷ 3 ∷ 9 ∷ [])) × (at four_appended 3 ≡ reads 2 (1 ∷ 2 ∷ 9 ∷ 9 ∷ [])) × (at three_kept 3 ≡ refuses 27 (replicate 4 9))
