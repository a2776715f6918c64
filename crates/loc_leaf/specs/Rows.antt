-- Overflow rows: their fields, their order, and the row of a record (document 01, "delta_loc.rs, leaf part").
-- A list of rows is what an area publishes in pieces of the kind's row width.
use Rattle.std.specs.Prelude.{ℕ, zero, suc, ◌+◌, ◌-◌, ◌/◌, Bool, true, false, cond, ◌&&◌, ◌||◌, List, [], ◌∷◌, ◌++◌, leb, ltb, eqb, length, get_or, Option, Some, None}
use Rattle.loc_leaf.specs.declared.Kind.{Kind}
use Rattle.loc_leaf.specs.declared.Kind.TheVariants.{Paired, Single}
use Rattle.loc_leaf.specs.declared.Value.{Value}
use Rattle.loc_leaf.specs.Bytes.{Bytes, bytes, number_at}
use Rattle.loc_leaf.specs.Area.{published}
use Rattle.loc_leaf.specs.Kind.{row_width}
use Rattle.loc_leaf.specs.Slot.{needs_row, inline}

-- number (8 bytes), strides (4), span count (4); single: number (8), strides (4)
unfoldable pub row : Kind → ℕ → Value → Bytes
row Paired n v = bytes 8 n ++ (bytes 4 v.strides ++ bytes 4 v.spans)
row Single n v = bytes 8 n ++ bytes 4 v.strides

unfoldable pub row_number : Bytes → ℕ
row_number r = number_at 8 0 r

unfoldable pub row_value : Kind → Bytes → Value
row_value Paired r = record { strides = number_at 4 8 r; spans = number_at 4 12 r }
row_value Single r = record { strides = number_at 4 8 r; spans = 0 }

-- the rows that an area publishes
unfoldable pub row_list : Kind → Bytes → List Bytes
row_list k xs = published (row_width k) xs

-- each number is above the one before, which is n before the first
unfoldable pub ascending : ℕ → List Bytes → Bool
ascending n [] = true
ascending n (r ∷ rs) = ltb n (row_number r) && ascending (row_number r) rs

-- the last row's number, n where there is none
unfoldable pub last_number : ℕ → List Bytes → ℕ
last_number n [] = n
last_number n (r ∷ rs) = last_number (row_number r) rs

-- how many of the rows have a number up to n
unfoldable pub rows_up_to : ℕ → List Bytes → ℕ
rows_up_to n [] = 0
rows_up_to n (r ∷ rs) = cond (leb (row_number r) n) (suc (rows_up_to n rs)) (rows_up_to n rs)

-- the first row with a number, and whether there is one
unfoldable pub row_for : ℕ → List Bytes → Bytes
row_for n [] = []
row_for n (r ∷ rs) = cond (eqb (row_number r) n) r (row_for n rs)

unfoldable pub has_row : ℕ → List Bytes → Bool
has_row n [] = false
has_row n (r ∷ rs) = eqb (row_number r) n || has_row n rs

-- the row with this number
unfoldable pub lookup : Kind → ℕ → List Bytes → Option Value
lookup k n rs = cond (has_row n rs) (Some (row_value k (row_for n rs))) None

-- if a slot needs a row, both values come from the row
unfoldable pub slot_value : Kind → List Bytes → ℕ → Bytes → Option Value
slot_value k rs id s = cond (needs_row k s) (lookup k id rs) (Some (inline k s))

-- the values of each case: no strides and spans where the row is missing
unfoldable pub value_in : Option Value → Value
value_in (Some v) = v
value_in None = record { strides = 0; spans = 0 }

-- ---- the search by halves: what it gives for any rows; where they ascend, rows_up_to (proofs/RowLaws)

-- between lo and hi, by the number in the middle; t bounds the turns
unfoldable pub halve : (ℕ → ℕ) → ℕ → ℕ → ℕ → ℕ → ℕ
halve f n zero lo hi = lo
halve f n (suc t) lo hi =
    cond (ltb lo hi)
    (cond (leb (f (lo + (hi - lo) / 2)) n) (halve f n t (lo + (hi - lo) / 2 + 1) hi) (halve f n t lo (lo + (hi - lo) / 2)))
    lo

-- the number of the row at a place
unfoldable pub number_in : List Bytes → ℕ → ℕ
number_in rs i = row_number (get_or rs i [])

unfoldable pub rows_up_to_by_halves : ℕ → List Bytes → ℕ
rows_up_to_by_halves n rs = halve (number_in rs) n (length rs) 0 (length rs)
