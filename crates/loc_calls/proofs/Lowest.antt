-- The lowest of the numbers that follow f for which a test holds: in parts, where it is known, and what it says.
-- 0 stands for none.
use Prim.Native.Nat.{ℕ, zero, suc, ◌+◌, ◌≤◌, ◌<◌}
use mathlib.Core.Path.{◌≡◌, refl, sym}
use mathlib.Core.Logic.{⊎_elim}
use mathlib.Core.Bool.{Bool, true, false}
use native.Mathlib.Nat.{add-zero, add-suc, eq-or-lt_of_le, not-suc-le-zero, suc-ne-zero}
use native.Mathlib.Omega.{arith}
use Rattle.loc_leaf.specs.Answers.{refuse, ◌or_else◌}
use Rattle.loc_leaf.proofs.Refusals.{or_else_first, or_else_zero, or_else_assoc}
use Rattle.loc_calls.specs.Reading.{first_after}

pub lowest_parts : (g : ℕ → Bool) (f m n : ℕ) → first_after g f (m + n) ≡ (first_after g f m or_else first_after g (f + m) n)
unfolding first_after
lowest_parts g f m zero = rw (add-zero m) (sym (or_else_zero (first_after g f m)))
lowest_parts g f m (suc n) =
    let e : f + suc (m + n) ≡ f + m + suc n = omega arith in
    rw (add-suc m n, lowest_parts g f m n, e) (or_else_assoc (first_after g f m) (first_after g (f + m) n) (refuse (g (f + m + suc n)) (f + m + suc n)))

module _ (g : ℕ → Bool) (f : ℕ) where
  -- none holds
  pub lowest_none : (m : ℕ) → ((j : ℕ) → j < m → g (f + suc j) ≡ false) → first_after g f m ≡ 0
  unfolding first_after
  lowest_none zero h = refl
  lowest_none (suc m) h = rw (lowest_none m (λ j l. h j (omega arith)), h m (omega arith)) refl

  -- one holds and none below it
  pub lowest_is : (k m : ℕ) → k < m → ((j : ℕ) → j < k → g (f + suc j) ≡ false) → g (f + suc k) ≡ true → first_after g f m ≡ f + suc k
  unfolding first_after
  lowest_is k zero l h t = absurd (not-suc-le-zero l)
  lowest_is k (suc m) l h t = ⊎_elim last (λ (q : suc k < suc m). before (lowest_is k m (omega arith) h t)) (eq-or-lt_of_le l)
    where
      last : suc k ≡ suc m → (first_after g f m or_else refuse (g (f + suc m)) (f + suc m)) ≡ f + suc k
      last e = rw (← e) (rw (lowest_none m (λ j q. h j (omega arith)), t) refl)

      before : first_after g f m ≡ f + suc k → (first_after g f m or_else refuse (g (f + suc m)) (f + suc m)) ≡ f + suc k
      before q = rw q (or_else_first (f + suc k) _ (λ z. omega arith))

-- what it says of the numbers from 1 on: it is one of them and holds, and none below it does; or none holds
pub record Lowest (g : ℕ → Bool) (m i : ℕ) : Type 0 where
  pub inside : i ≤ m
  pub holds : 0 < i → g i ≡ true
  pub below : (j : ℕ) → j < m → (i ≡ 0 → g (suc j) ≡ false) × (suc j < i → g (suc j) ≡ false)

module _ (g : ℕ → Bool) where
  -- one number more
  next : (m i : ℕ) → Lowest g m i → (b : Bool) → g (suc m) ≡ b → Lowest g (suc m) (i or_else refuse b (suc m))
  next m zero w true e = record {
    inside = omega arith;
    holds = λ l. e;
    below = λ j l. (λ z. absurd (suc-ne-zero m z), λ q. (w.below j (omega arith)).0 refl);
  }
  next m zero w false e = record {
    inside = omega arith;
    holds = λ l. absurd (not-suc-le-zero l);
    below = λ j l. (λ z. ⊎_elim (λ (q : suc j ≡ suc m). rw q e) (λ (q : suc j < suc m). (w.below j (omega arith)).0 refl) (eq-or-lt_of_le l), λ q. absurd (not-suc-le-zero q));
  }
  next m (suc i) w b e = record {
    inside = omega (arith, w.inside);
    holds = w.holds;
    below = λ j l. (λ z. absurd (suc-ne-zero i z), λ q. (w.below j (omega (arith, w.inside))).1 q);
  }

  pub lowest : (m : ℕ) → Lowest g m (first_after g 0 m)
  unfolding first_after
  lowest zero = record { inside = omega arith; holds = λ l. absurd (not-suc-le-zero l); below = λ j l. absurd (not-suc-le-zero l) }
  lowest (suc m) =
      let e : 0 + suc m ≡ suc m = omega arith in
      rw e (next m (first_after g 0 m) (lowest m) (g (suc m)) refl)
