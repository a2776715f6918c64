-- What the contracts of the reading calls cite.
-- A count of the bytes at the start of a buffer.
use Rattle.std.specs.Prelude.{◌≡◌, ℕ, ◌≤◌, List, length, take}

-- Lending the first n of xs is in bounds and has n bytes. The second part follows from the first, and spares a caller that lends them a proof.
abbrev pub IsPrefixLen : ℕ → List ℕ → Type 0
IsPrefixLen n xs = (n ≤ length xs) × (n ≡ length (take n xs))
