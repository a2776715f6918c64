-- Bytes and little-endian numbers (document 01: "stored numbers are little-endian").
-- Total: a byte past the end counts as 0 when it is read, and is not stored.
use Rattle.std.specs.Prelude.{ℕ, zero, suc, ◌+◌, ◌*◌, ◌/◌, ◌%◌, List, [], ◌∷◌, take, drop, get_or}
use Rattle.std.proofs.lemmas.List.Edits.{sets}

abbrev pub Bytes : Type 0
Bytes = List ℕ

-- the byte at a place
abbrev pub byte : ℕ → Bytes → ℕ
byte i xs = get_or xs i 0

-- the number that bytes spell, the lowest byte first
unfoldable pub number : Bytes → ℕ
number [] = 0
number (b ∷ bs) = b + 256 * number bs

-- the n bytes that spell v
unfoldable pub bytes : ℕ → ℕ → Bytes
bytes zero v = []
bytes (suc n) v = v % 256 ∷ bytes n (v / 256)

-- the number of n bytes that stands at a place
unfoldable pub number_at : ℕ → ℕ → Bytes → ℕ
number_at n at xs = number (take n (drop at xs))

-- the bytes bs stored at a place and after it, as far as xs reaches
unfoldable pub store : ℕ → Bytes → Bytes → Bytes
store at bs xs = sets xs at bs
