-- The texts computed: the least and the largest number, and document 01's lines.
-- The bytes are those of the digits 48 to 57, the space 32 and the line feed 10.
use Prim.Native.Nat.{◌-◌, ◌^◌}
use mathlib.Core.Path.{◌≡◌, refl}
use mathlib.Core.List.{[], ◌∷◌}
use Rattle.loc_listing.specs.Text.{digits, decimal, line, record_line, record_lines, refused_line}

decimal_0 : decimal 0 ≡ 48 ∷ []
unfolding decimal digits
decimal_0 = refl

-- 18446744073709551615
decimal_largest : decimal (2 ^ 64 - 1) ≡ 49 ∷ 56 ∷ 52 ∷ 52 ∷ 54 ∷ 55 ∷ 52 ∷ 52 ∷ 48 ∷ 55 ∷ 51 ∷ 55 ∷ 48 ∷ 57 ∷ 53 ∷ 53 ∷ 49 ∷ 54 ∷ 49 ∷ 53 ∷ []
unfolding decimal digits
decimal_largest = refl

-- 1 16 40 16 24 3 and 2 56 2048 40 8 1, from the words of a reading of both records
listing : record_lines 1 (1 ∷ 16 ∷ 40 ∷ 16 ∷ 24 ∷ 3 ∷ 1 ∷ 56 ∷ 2048 ∷ 40 ∷ 8 ∷ 1 ∷ []) 2
    ≡ 49 ∷ 32 ∷ 49 ∷ 54 ∷ 32 ∷ 52 ∷ 48 ∷ 32 ∷ 49 ∷ 54 ∷ 32 ∷ 50 ∷ 52 ∷ 32 ∷ 51 ∷ 10
    ∷ 50 ∷ 32 ∷ 53 ∷ 54 ∷ 32 ∷ 50 ∷ 48 ∷ 52 ∷ 56 ∷ 32 ∷ 52 ∷ 48 ∷ 32 ∷ 56 ∷ 32 ∷ 49 ∷ 10 ∷ []
unfolding record_lines record_line line decimal digits
listing = refl

-- refused 17
refused_17 : refused_line 17 ≡ 114 ∷ 101 ∷ 102 ∷ 117 ∷ 115 ∷ 101 ∷ 100 ∷ 32 ∷ 49 ∷ 55 ∷ 10 ∷ []
unfolding refused_line decimal digits
refused_17 = refl
