-- The turns of a search by quarters: three looks at once, and one by one at its end.
-- Whatever it is that is searched.
use Prim.Native.Nat.{ℕ, ◌+◌, ◌-◌, ◌*◌, ◌/◌, ◌≤◌, ◌<◌}
use mathlib.Core.Path.{◌≡◌}
use mathlib.Core.Logic.{inl, inr}
use native.Mathlib.Omega.{arith}
use Rattle.loc_leaf.specs.Quarters.{Counts, Near}

pub near_few : (p place r : ℕ) → Counts p place r → r ≤ 1
near_few p place r (inl (e, l)) = omega arith
near_few p place r (inr (e, l)) = omega arith

-- one place less to look at
pub near_one : (p from left r : ℕ) → 0 < left → Counts p from r → Near from left p → Near (from + r) (left - 1) p × (from + r + (left - 1) ≤ from + left)
near_one p from left r h (inl (e, l)) w = (rw e (record { low = omega (arith, w.low); high = omega (arith, w.high) }), omega arith)
near_one p from left r h (inr (e, l)) w = (rw e (record { low = omega (arith, w.low); high = omega (arith, w.high) }), omega arith)

-- three of four quarters less
module _ (p from left q : ℕ) (h : 3 ≤ left) (eq : q ≡ (left + 1) / 4) (w : Near from left p) where
  pub near_quarters : (x y z : ℕ) → Counts p (from + q - 1) x → Counts p (from + 2 * q - 1) y → Counts p (from + 3 * q - 1) z
      → ((x + y + z) * q ≤ 3 * q) × Near (from + (x + y + z) * q) (left - 3 * q) p
  near_quarters x y z (inl (ex, lx)) (inl (ey, ly)) (inl (ez, lz)) = rw (ex, ey, ez) ((omega arith, record { low = omega (arith, w.low); high = omega (arith, w.high) }))
  near_quarters x y z (inl (ex, lx)) (inl (ey, ly)) (inr (ez, lz)) = rw (ex, ey, ez) ((omega arith, record { low = omega (arith, w.low); high = omega (arith, w.high) }))
  near_quarters x y z (inl (ex, lx)) (inr (ey, ly)) (inr (ez, lz)) = rw (ex, ey, ez) ((omega arith, record { low = omega (arith, w.low); high = omega (arith, w.high) }))
  near_quarters x y z (inr (ex, lx)) (inr (ey, ly)) (inr (ez, lz)) = rw (ex, ey, ez) ((omega arith, record { low = omega (arith, w.low); high = omega (arith, w.high) }))
  near_quarters x y z (inl (ex, lx)) (inr (ey, ly)) (inl (ez, lz)) = absurd (omega arith)
  near_quarters x y z (inr (ex, lx)) (inl (ey, ly)) (inl (ez, lz)) = absurd (omega arith)
  near_quarters x y z (inr (ex, lx)) (inl (ey, ly)) (inr (ez, lz)) = absurd (omega arith)
  near_quarters x y z (inr (ex, lx)) (inr (ey, ly)) (inl (ez, lz)) = absurd (omega arith)
