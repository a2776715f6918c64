-- Whose crossing is at an address at the ends of two lawful histories: one with listings and tears, one over a window's edge.
-- The call itself, not the book's answer.
use Rattle.std.specs.Prelude.{ℕ, ◌≡◌, List, [], ◌∷◌}
use Rattle.loc_calls.specs.Areas.{Areas}
use Rattle.loc_calls.specs.Table.{append}
use Rattle.loc_calls.specs.Calls.{create}
use Rattle.loc_calls.specs.SpanAt.{Crossing, refused_by, span_at}
use Rattle.loc_history.specs.History.{finished}
use Rattle.loc_round_trip.specs.Listings.{AnyEvent, event, any_index_at_end}
use Rattle.loc_premises.specs.Replies.{small, wide}
use Rattle.loc_premises.specs.Lawful.{long}
use Rattle.loc_premises.specs.Listed.{listed_story}

abbrev pub located : ℕ → ℕ → ℕ → Crossing
located id i m = record { number = 0; «record» = id; index = i; remainder = m }

-- records 1 to 4 have 3, 1, 1 and 1 spans
abbrev pub listed_areas : Areas
listed_areas = any_index_at_end (create small).areas listed_story

-- the last address of record 1, one of record 4, and the first past the end
unfoldable pub ListedLocated : Type 0
ListedLocated = (span_at listed_areas 39 ≡ located 1 2 7) × (span_at listed_areas 57 ≡ located 4 0 1) × (span_at listed_areas 64 ≡ refused_by 21)

-- 1,026 records of 2 spans, appended at once
abbrev pub long_appended : List AnyEvent
long_appended = event (finished (append long)) ∷ []

abbrev pub long_areas : Areas
long_areas = any_index_at_end (create wide).areas long_appended

-- the last address of record 1,024, and one of record 1,025, which is in the next window
unfoldable pub EdgeLocated : Type 0
EdgeLocated = (span_at long_areas 16399 ≡ located 1024 1 7) × (span_at long_areas 16409 ≡ located 1025 1 1)
