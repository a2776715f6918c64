-- Histories that break one premise of demand 3; that they meet the others is read off them.
-- "Ends below 2^64" has none here: a length is below 2^35, so it takes 2^29 records to break it.
use Rattle.std.specs.Prelude.{◌+◌, ◌^◌, List, [], ◌∷◌, replicate}
use Rattle.loc_calls.specs.Areas.{Areas}
use Rattle.loc_calls.specs.Table.{batch, opening, append, truncate, read}
use Rattle.loc_history.specs.History.{Event, finished, torn}

-- ---- an area of 15 bytes: the index refuses to open it, the book knows no such refusal

abbrev pub bytes15 : Areas
bytes15 = record { slots = replicate 15 0; rows = replicate 16 0; checkpoints = replicate 16 0 }

abbrev pub opened_small : List Event
opened_small = finished opening ∷ []

-- ---- a reading before the opening that a tear awaits: the slot of record 2 is published, its row is not

abbrev pub not_opened : List Event
not_opened = torn 2 (append (batch (16 ∷ 56 ∷ []) (40 ∷ 2048 ∷ []) (16 ∷ 40 ∷ []) (3 ∷ 1 ∷ []))) ∷ finished (read (1 ∷ []) (replicate 6 9)) ∷ []

-- ---- a truncation torn after its last place: it has happened, and the book keeps the longest part without rows

abbrev pub torn_after_end : List Event
torn_after_end = finished (append (batch (16 ∷ 24 ∷ []) (8 ∷ 8 ∷ []) (16 ∷ 24 ∷ []) (1 ∷ 1 ∷ []))) ∷ torn 3 (truncate 1) ∷ finished opening ∷ []

-- ---- a span count of 2^32 + 1: the row has four bytes for it

abbrev pub wide_spans : List Event
wide_spans = finished (append (batch (16 ∷ []) (8 ∷ []) (16 ∷ []) ((2 ^ 32 + 1) ∷ []))) ∷ finished (read (1 ∷ []) (replicate 6 9)) ∷ []
