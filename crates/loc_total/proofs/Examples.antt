-- Three paired records after record 10, of which two need a row, computed from the definitions.
-- By no row, by the last one, and by both.
use Prim.Native.Nat.{ℕ}
use mathlib.Core.Path.{◌≡◌, refl}
use mathlib.Core.List.{List, [], ◌∷◌, ◌++◌}
use lib.ListN.{replicate}
use Rattle.loc_leaf.specs.declared.Kind.TheVariants.{Paired}
use Rattle.loc_leaf.specs.Bytes.{Bytes, number, bytes, number_at}
use Rattle.loc_leaf.specs.Area.{counted, pieces, fill, published}
use Rattle.loc_leaf.specs.Slot.{needs_row, inline}
use Rattle.loc_leaf.specs.Rows.{row, row_number, row_value, row_list, row_for, has_row, lookup, slot_value}
use Rattle.loc_leaf.specs.Block.{sum_from}
use Rattle.loc_total.specs.Total.{lookup_from, value_or, lack, value_from, lack_from}

abbrev slots : Bytes
slots = 3 ∷ 4 ∷ 0 ∷ 1 ∷ 5 ∷ 0 ∷ []

abbrev rows : Bytes
rows = replicate 8 0 ++ (bytes 8 48 ++ (row Paired 12 (record { strides = 300; spans = 1 }) ++ row Paired 13 (record { strides = 5; spans = 256 })))

-- strides, spans and how many lack their row, by the rows from a place on
abbrev sums : ℕ → List ℕ
sums place =
    sum_from (λ i. (value_from Paired 10 slots rows place i).strides) 0 3 ∷ sum_from (λ i. (value_from Paired 10 slots rows place i).spans) 0 3
    ∷ sum_from (lack_from Paired 10 slots rows place) 0 3 ∷ []

pub computed : (sums 2 ≡ 8 ∷ 5 ∷ 2 ∷ []) × (sums 1 ≡ 8 ∷ 261 ∷ 1 ∷ []) × (sums 0 ≡ 308 ∷ 261 ∷ 0 ∷ [])
unfolding number bytes number_at counted pieces fill published needs_row inline row row_number row_value row_list row_for has_row lookup slot_value sum_from lookup_from value_or lack
computed = (refl, refl, refl)
