-- What stands at a place of the published rows (document 01: "one reader over the row area, carrying the next row's place").
-- The width of a row is a number: 16 where paired, 12 where single.
use Rattle.std.specs.Prelude.{ℕ, ◌+◌, ◌-◌, ◌/◌, cond, List, leb, length, take, drop, Option, Some, None}
use Rattle.loc_leaf.specs.Bytes.{Bytes, number_at}
use Rattle.loc_leaf.specs.Area.{pieces}
use Rattle.loc_leaf.specs.Rows.{row_number}
use Rattle.loc_rows.specs.declared.Row.{Row}

-- number (8 bytes), strides (4) and span count (4, of which a row of 12 bytes has none)
unfoldable pub fields : Bytes → Row
fields r = record { number = row_number r; strides = number_at 4 8 r; spans = number_at 4 12 r }

-- the row at a place, where a whole one stands there
unfoldable pub row_at : ℕ → Bytes → ℕ → Option Row
row_at w xs at = cond (leb (at + w) (length xs)) (Some (fields (take w (drop at xs)))) None

-- the whole rows from a place on
unfoldable pub rows_from : ℕ → Bytes → ℕ → List Bytes
rows_from w xs at = pieces w ((length xs - at) / w) (drop at xs)
