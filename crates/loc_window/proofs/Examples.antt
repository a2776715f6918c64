-- The places of windows computed, of rows of both widths.
-- Rows at a window's first and last number, a window without rows, and one behind them all.
use Prim.Native.Nat.{ℕ}
use mathlib.Core.Path.{◌≡◌, refl}
use mathlib.Core.List.{List, [], ◌∷◌, ◌++◌}
use lib.ListN.{replicate}
use Rattle.loc_leaf.specs.declared.Kind.{Kind}
use Rattle.loc_leaf.specs.declared.Kind.TheVariants.{Paired, Single}
use Rattle.loc_leaf.specs.declared.Value.{Value}
use Rattle.loc_leaf.specs.Bytes.{Bytes, number, bytes, number_at}
use Rattle.loc_leaf.specs.Area.{counted, pieces, fill, published}
use Rattle.loc_leaf.specs.Rows.{row, row_number, row_list, rows_up_to}
use Rattle.loc_window.specs.declared.PlannedWindow.{PlannedWindow}
use Rattle.loc_window.specs.Planned.{planned}

-- rows 5, 1,024, 1,025 and 4,096 of a kind, published up to a length
abbrev rows : Kind → ℕ → Value → Bytes
rows k end v = replicate 8 0 ++ (bytes 8 end ++ (row k 5 v ++ (row k 1024 v ++ (row k 1025 v ++ row k 4096 v))))

abbrev paired : List Bytes
paired = row_list Paired (rows Paired 80 (record { strides = 256; spans = 1 }))

abbrev single : List Bytes
single = row_list Single (rows Single 64 (record { strides = 65536; spans = 0 }))

-- the two places
abbrev places : PlannedWindow → List ℕ
places window = window.first ∷ window.past ∷ []

pub record Computed : Type 0 where
  first : places (planned paired 0 1024) ≡ 0 ∷ 2 ∷ []
  second : places (planned paired 1024 7) ≡ 2 ∷ 3 ∷ []
  none : places (planned paired 2048 1024) ≡ 3 ∷ 3 ∷ []
  last : places (planned paired 3072 1024) ≡ 3 ∷ 4 ∷ []
  behind : places (planned paired 4096 1) ≡ 4 ∷ 4 ∷ []
  first_single : places (planned single 0 1024) ≡ 0 ∷ 2 ∷ []
  last_single : places (planned single 3072 1024) ≡ 3 ∷ 4 ∷ []

pub computed : Computed
unfolding number bytes number_at counted pieces fill published row row_number row_list rows_up_to
computed =
    record {
      first = refl;
      second = refl;
      none = refl;
      last = refl;
      behind = refl;
      first_single = refl;
      last_single = refl;
    }
