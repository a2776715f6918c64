-- Sums over numbers that follow one another: some terms more, and one term changed.
-- Of terms that are 0 or 1 the sum is at most their number.
use Prim.Native.Nat.{ℕ, zero, suc, ◌+◌, ◌-◌, ◌≤◌, ◌<◌}
use mathlib.Core.Path.{◌≡◌, refl, sym, ap, ◌∙◌}
use native.Mathlib.Nat.{zero-add, add-zero}
use native.Mathlib.Omega.{arith}
use Rattle.loc_leaf.specs.declared.Kind.{Kind}
use Rattle.loc_leaf.specs.Bytes.{Bytes}
use Rattle.loc_leaf.specs.Slot.{needs_row}
use Rattle.loc_leaf.specs.Block.{slot_bytes, row_bit, sum_from}
use Rattle.loc_window.proofs.BlockLaws.{sum_same}
use Rattle.loc_leaf.proofs.Lanes.{bit_lt}
use Rattle.loc_window.proofs.BlocksLaws.{sum_split, sum_at}

pub sum_zero : (g : ℕ → ℕ) (j n : ℕ) → ((i : ℕ) → g i ≡ 0) → sum_from g j n ≡ 0
unfolding sum_from
sum_zero g j zero e = refl
sum_zero g j (suc n) e = (λ i. e j i + sum_zero g (j + 1) n e i)

-- n terms, then m
pub sum_more : (g : ℕ → ℕ) (n m k : ℕ) → n + m ≡ k → sum_from g 0 k ≡ sum_from g 0 n + sum_from g n m
sum_more g n m k e = ap (sum_from g 0) (sym e) ∙ sum_split g 0 n m ∙ ap (λ (j : ℕ). sum_from g 0 n + sum_from g j m) (zero-add n)

pub sum_next : (g : ℕ → ℕ) (n : ℕ) → sum_from g 0 (n + 1) ≡ sum_from g 0 n + g n
unfolding sum_from
sum_next g n = sum_more g n 1 (n + 1) refl ∙ ap (λ (t : ℕ). sum_from g 0 n + t) (add-zero (g n))

-- functions that differ at j alone
module _ (g h : ℕ → ℕ) (m j : ℕ) (l : j < m) (same : (i : ℕ) → i < m → (i ≡ j → ⊥) → g i ≡ h i) where
  before : sum_from g 0 j ≡ sum_from h 0 j
  before = sum_same g h 0 0 j (λ t q. same (0 + t) (omega arith) (λ e. omega arith))

  behind : sum_from g (0 + j + 1) (m - j - 1) ≡ sum_from h (0 + j + 1) (m - j - 1)
  behind = sum_same g h (0 + j + 1) (0 + j + 1) (m - j - 1) (λ t q. same (0 + j + 1 + t) (omega arith) (λ e. omega arith))

  pub sum_changed : (sum_from g 0 m + h j ≡ sum_from h 0 m + g j) × (h j ≤ sum_from h 0 m)
  sum_changed =
      let p = ap g (zero-add j) in
      let q = ap h (zero-add j) in
      (omega (arith, p, q, before, behind, sum_at g 0 m j l, sum_at h 0 m j l), omega (arith, q, sum_at h 0 m j l))

-- records that need a row are no more than the records
pub bits_low : (k : Kind) (s : Bytes) (j n : ℕ) → sum_from (row_bit k s) j n ≤ n
unfolding sum_from
bits_low k s j zero = omega arith
bits_low k s j (suc n) = omega (arith, bit_lt (needs_row k (slot_bytes s j)), bits_low k s (j + 1) n)
