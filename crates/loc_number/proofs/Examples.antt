-- Numbers computed: the least and the largest of 64 bits, one above it, and forms that are turned away.
-- The end is a line feed, 10.
use Prim.Native.Nat.{ℕ, ◌-◌, ◌^◌}
use mathlib.Core.Path.{◌≡◌, refl}
use mathlib.Core.List.{List, [], ◌∷◌}
use Rattle.std.specs.Prelude.{Option, Some, None}
use Rattle.loc_number.specs.Decimal.{goes_on, digits_on, starts_at, number_at}

abbrev first : List ℕ → Option (ℕ × ℕ)
first xs = number_at (2 ^ 64 - 1) 10 xs 0

-- 0, 18446744073709551615, 18446744073709551616, 07, no digit, 1 with no end, 1a, +1
numbers :
    first (48 ∷ 10 ∷ [])
    ∷ first (49 ∷ 56 ∷ 52 ∷ 52 ∷ 54 ∷ 55 ∷ 52 ∷ 52 ∷ 48 ∷ 55 ∷ 51 ∷ 55 ∷ 48 ∷ 57 ∷ 53 ∷ 53 ∷ 49 ∷ 54 ∷ 49 ∷ 53 ∷ 10 ∷ [])
    ∷ first (49 ∷ 56 ∷ 52 ∷ 52 ∷ 54 ∷ 55 ∷ 52 ∷ 52 ∷ 48 ∷ 55 ∷ 51 ∷ 55 ∷ 48 ∷ 57 ∷ 53 ∷ 53 ∷ 49 ∷ 54 ∷ 49 ∷ 54 ∷ 10 ∷ [])
    ∷ first (48 ∷ 55 ∷ 10 ∷ [])
    ∷ first (10 ∷ [])
    ∷ first (49 ∷ [])
    ∷ first (49 ∷ 97 ∷ 10 ∷ [])
    ∷ first (43 ∷ 49 ∷ 10 ∷ [])
    ∷ []
    ≡ Some (0, 2) ∷ Some (2 ^ 64 - 1, 21) ∷ None ∷ None ∷ None ∷ None ∷ None ∷ None ∷ []
unfolding number_at starts_at digits_on goes_on
numbers = refl
