-- The starred values of document 01, "Values on either side": one table, and the proposition that it holds.
-- Each line computes from the definitions; proofs/Starred has the proof. The unstarred values stand in the table too.
use Rattle.std.specs.Prelude.{ℕ, ◌≡◌, Bool, true, false, not, ◌&&◌, List, [], ◌∷◌, ◌++◌, eqb, replicate}
use Rattle.loc_leaf.specs.declared.Kind.{Kind}
use Rattle.loc_leaf.specs.declared.Kind.TheVariants.{Paired, Single}
use Rattle.loc_leaf.specs.declared.Value.{Value}
use Rattle.loc_leaf.specs.Bytes.{Bytes}
use Rattle.loc_leaf.specs.Slot.{slot, needs_row, checkpoint_rule}
use Rattle.loc_leaf.specs.Rows.{row, row_value}
use Rattle.loc_leaf.specs.Cut.{cuts, cut_for}

abbrev of : ℕ → ℕ → Value
of s c = record { strides = s; spans = c }

unfoldable pub same_bytes : Bytes → Bytes → Bool
same_bytes [] [] = true
same_bytes [] (y ∷ ys) = false
same_bytes (x ∷ xs) [] = false
same_bytes (x ∷ xs) (y ∷ ys) = eqb x y && same_bytes xs ys

-- a value is stored as these two bytes, inline
unfoldable pub inline_as : Kind → Value → ℕ → ℕ → Bool
inline_as k v x y = same_bytes (slot k v) (x ∷ y ∷ []) && not (needs_row k (slot k v))

-- a value is stored as these two bytes and a row that holds it
unfoldable pub row_as : Kind → Value → ℕ → ℕ → Bool
row_as k v x y =
    same_bytes (slot k v) (x ∷ y ∷ []) && needs_row k (slot k v)
    && eqb (row_value k (row k 7 v)).strides v.strides && eqb (row_value k (row k 7 v)).spans v.spans

-- records, checkpoints, kept
unfoldable pub keeps : ℕ → ℕ → ℕ → Bool
keeps n k m = eqb (checkpoint_rule n k) m

-- row (9, 300, 5), last row 4, the slot of record 9 and the count: whether it cuts, and to what
unfoldable pub cuts9 : ℕ → ℕ → ℕ → Bool
cuts9 x y n = cuts Paired (replicate 32 1 ++ (x ∷ y ∷ [])) n 4 (row Paired 9 (of 300 5))

unfoldable pub kept9 : ℕ → ℕ → ℕ → ℕ
kept9 x y n = cut_for Paired (replicate 32 1 ++ (x ∷ y ∷ [])) n 4 (row Paired 9 (of 300 5))

-- row number 1, last 0, matching
unfoldable pub kept1 : ℕ
kept1 = cut_for Paired (replicate 16 1 ++ (0 ∷ 5 ∷ [])) 20 0 (row Paired 1 (of 300 5))

unfoldable pub starred_cases : List Bool
starred_cases =
    inline_as Paired (of 255 255) 255 255
    ∷ row_as Paired (of 256 1) 0 1
    ∷ row_as Paired (of 1 256) 1 0
    ∷ inline_as Single (of 65535 0) 255 255
    ∷ row_as Single (of 65536 0) 0 0
    ∷ inline_as Single (of 256 0) 0 1
    ∷ keeps 1023 0 1023 ∷ keeps 1024 0 1023 ∷ keeps 1024 1 1024 ∷ keeps 2048 1 2047 ∷ keeps 1000 1 1000
    ∷ eqb (kept9 0 5 20) 8 ∷ eqb (kept9 0 0 20) 8 ∷ not (cuts9 44 0 20)
    ∷ not (cuts9 0 5 8) ∷ eqb kept1 0
    ∷ []

unfoldable pub every : List Bool → Bool
every [] = true
every (b ∷ bs) = b && every bs

unfoldable pub Starred : Type 0
Starred = every starred_cases ≡ true
