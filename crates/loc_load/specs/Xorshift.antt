-- The 64-bit xorshift of Marsaglia (Journal of Statistical Software, 2003) with left 13, right 7, left 17 (document 02, Item 6).
-- A shift to the left is cut at 64 bits.
use Rattle.std.specs.Prelude.{ℕ, zero, suc, ◌*◌, ◌/◌, ◌%◌, ◌^◌}
use Rattle.std.specs.Int.Bits.{bit_xor}

unfoldable pub xor_left : ℕ → ℕ → ℕ
xor_left k x = bit_xor x (x * 2 ^ k % 2 ^ 64)

unfoldable pub xor_right : ℕ → ℕ → ℕ
xor_right k x = bit_xor x (x / 2 ^ k)

-- one step
unfoldable pub xorshift : ℕ → ℕ
xorshift x = xor_left 17 (xor_right 7 (xor_left 13 x))

-- the state after n steps from a seed; from 1 on it is the n-th draw
unfoldable pub state : ℕ → ℕ → ℕ
state seed zero = seed
state seed (suc n) = xorshift (state seed n)
