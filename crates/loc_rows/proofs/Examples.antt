-- The reader's definitions computed: rows of both widths, and no whole row.
-- One proposition conjoins them.
use mathlib.Core.Path.{◌≡◌, refl}
use mathlib.Core.List.{[], ◌∷◌, ◌++◌}
use lib.ListN.{replicate}
use Rattle.std.specs.Prelude.{Some, None}
use Rattle.loc_leaf.specs.declared.Kind.TheVariants.{Paired, Single}
use Rattle.loc_leaf.specs.Bytes.{Bytes, number, bytes, number_at}
use Rattle.loc_leaf.specs.Area.{pieces}
use Rattle.loc_leaf.specs.Rows.{row, row_number}
use Rattle.loc_rows.specs.Reader.{fields, row_at, rows_from}

-- rows 2 and 9 behind the first 16 bytes, and a byte that is no row
abbrev paired : Bytes
paired = replicate 16 7 ++ (row Paired 2 (record { strides = 256; spans = 1 }) ++ (row Paired 9 (record { strides = 300; spans = 5 }) ++ (7 ∷ [])))

abbrev single : Bytes
single = replicate 16 7 ++ (row Single 2 (record { strides = 65536; spans = 0 }) ++ (row Single 9 (record { strides = 70000; spans = 0 }) ++ (7 ∷ [])))

pub record Computed : Type 0 where
  first : row_at 16 paired 16 ≡ Some (record { number = 2; strides = 256; spans = 1 })
  second : row_at 16 paired 32 ≡ Some (record { number = 9; strides = 300; spans = 5 })
  behind : row_at 16 paired 48 ≡ None
  first_single : row_at 12 single 16 ≡ Some (record { number = 2; strides = 65536; spans = 0 })
  second_single : row_at 12 single 28 ≡ Some (record { number = 9; strides = 70000; spans = 0 })
  behind_single : row_at 12 single 40 ≡ None
  left : rows_from 16 paired 32 ≡ row Paired 9 (record { strides = 300; spans = 5 }) ∷ []
  none : rows_from 16 paired 48 ≡ []

pub computed : Computed
unfolding number bytes number_at pieces row row_number fields row_at rows_from
computed = record {
  first = refl;
  second = refl;
  behind = refl;
  first_single = refl;
  second_single = refl;
  behind_single = refl;
  left = refl;
  none = refl;
}
