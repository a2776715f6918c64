-- A decimal number in bytes, ended by one byte: no zero in front of it, and at most `most` (document 02, Item 1).
-- The bytes 48 to 57 are the digits; `0` alone is a number.
use Rattle.std.specs.Prelude.{ℕ, ◌+◌, ◌-◌, ◌*◌, Bool, cond, not, ◌&&◌, List, [], ◌∷◌, leb, eqb, drop, Option, Some, None}

-- the number v with one digit more
abbrev pub with : ℕ → ℕ → ℕ
with v b = 10 * v + (b - 48)

-- the byte b goes on from the digits of v
unfoldable pub goes_on : ℕ → ℕ → ℕ → Bool
goes_on most v b = leb 48 b && leb b 57 && leb (with v b) most

-- the bytes from a place on, where the digits before it are those of v; a digit after a 0 is none
unfoldable pub digits_on : ℕ → ℕ → ℕ → ℕ → List ℕ → Option (ℕ × ℕ)
digits_on most end v at [] = None
digits_on most end v at (b ∷ bs) =
    cond (eqb b end) (Some (v, at + 1)) (cond (not (eqb v 0) && goes_on most v b) (digits_on most end (with v b) (at + 1) bs) None)

-- the first digit
unfoldable pub starts_at : ℕ → ℕ → ℕ → List ℕ → Option (ℕ × ℕ)
starts_at most end at [] = None
starts_at most end at (b ∷ bs) = cond (goes_on most 0 b) (digits_on most end (b - 48) (at + 1) bs) None

-- the number at a place, and the place after the byte that ends it
unfoldable pub number_at : ℕ → ℕ → List ℕ → ℕ → Option (ℕ × ℕ)
number_at most end xs at = starts_at most end at (drop at xs)

-- ---- document 02's number where none stands, and the values of what stands: the number and the place after it

unfoldable pub number_refusal : Option (ℕ × ℕ) → ℕ
number_refusal (Some (v, next)) = 0
number_refusal None = 18

unfoldable pub value_in : Option (ℕ × ℕ) → ℕ
value_in (Some (v, next)) = v
value_in None = 0

unfoldable pub place_in : Option (ℕ × ℕ) → ℕ
place_in (Some (v, next)) = next
place_in None = 0
