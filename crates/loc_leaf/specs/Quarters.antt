-- A search for a place p by quarters of what is left: what one look says, and where p can still be.
-- For proofs alone.
use Rattle.std.specs.Prelude.{ℕ, ◌+◌, ◌≤◌, ◌<◌, ◌≡◌, ◌⊎◌}

-- r is 1 where a place comes before place p, else 0
abbrev pub Counts : ℕ → ℕ → ℕ → Type 0
Counts p place r = ((r ≡ 1) × (place < p)) ⊎ ((r ≡ 0) × (p ≤ place))

-- place p is at most `left` places further on
pub record Near (from left p : ℕ) : Type 0 where
  pub low : from ≤ p
  pub high : p ≤ from + left
