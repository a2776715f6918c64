-- How many composites are at most a number, and the end of a composite's pairs.
-- Composites are in order throughout.
use Prim.Native.Nat.{ℕ, zero, suc, ◌+◌, ◌-◌, ◌*◌, ◌/◌, ◌≤◌, ◌<◌}
use mathlib.Core.Path.{◌≡◌, refl}
use mathlib.Core.Logic.{◌⊎◌, inl, inr}
use mathlib.Core.Bool.{Bool, true, false, cond}
use mathlib.Core.List.{List}
use native.Mathlib.Nat.{add-zero, add-suc}
use native.Mathlib.Omega.{arith}
use mir.Val.{bool_byte}
use lib.Dec.{leb}
use lib.ListN.{length, get_or}
use borrow.Author.Tests.{leb-true, leb-false, le-leb, lt-leb}
use Rattle.loc_leaf.specs.Quarters.{Counts, Near}
use Rattle.loc_leaf.proofs.Booleans.{is?}
use Rattle.loc_leaf.proofs.QuarterLaws.{near_one, near_quarters}
use Rattle.loc_calls.specs.Parts.{InOrder}
use Rattle.loc_parts.specs.Pass.{composites_to, PairsEnd}

-- ---- how many are at most y

module _ (cs : List ℕ) (y : ℕ) where
  -- 1 where the composite at a place is at most y
  abbrev pub passes : ℕ → ℕ
  passes j = bool_byte (leb (get_or cs j 0) y)

  pub to_most : (n : ℕ) → composites_to cs y n ≤ n
  unfolding composites_to
  to_most zero = omega arith
  to_most (suc n) = go (leb (get_or cs n 0) y) (to_most n)
    where
      go : (b : Bool) → composites_to cs y n ≤ n → composites_to cs y n + cond b 1 0 ≤ suc n
      go true h = omega arith
      go false h = omega arith

  -- those at most y come first
  to_all : (n : ℕ) → ((j : ℕ) → j < n → get_or cs j 0 ≤ y) → composites_to cs y n ≡ n
  unfolding composites_to
  to_all zero f = refl
  to_all (suc n) f = rw (to_all n (λ j h. f j (omega arith)), le-leb (get_or cs n 0) y (f n (omega arith))) (omega arith)

  to_rises : (m d : ℕ) → composites_to cs y m ≤ composites_to cs y (m + d)
  unfolding composites_to
  to_rises m zero = rw (add-zero m) (omega arith)
  to_rises m (suc d) = rw (add-suc m d) (omega (arith, to_rises m d))

  to_stays : (m d : ℕ) → ((j : ℕ) → m ≤ j → j < m + d → y < get_or cs j 0) → composites_to cs y (m + d) ≡ composites_to cs y m
  unfolding composites_to
  to_stays m zero f = rw (add-zero m) refl
  to_stays m (suc d) f = rw (add-suc m d, to_stays m d (λ j a h. f j a (omega arith)), lt-leb (get_or cs (m + d) 0) y (f (m + d) (omega arith) (omega arith))) (omega arith)

  pub counts : (n i r : ℕ) → InOrder cs → n ≤ length cs → i < n → r ≡ passes i → Counts (composites_to cs y n) i r
  counts n i r rise fits h e = go (is? (leb (get_or cs i 0) y))
    where
      go : (leb (get_or cs i 0) y ≡ true) ⊎ (leb (get_or cs i 0) y ≡ false) → Counts (composites_to cs y n) i r
      go (inl t) =
          let l : get_or cs i 0 ≤ y = leb-true (get_or cs i 0) y t in
          let m : suc i + (n - suc i) ≡ n = omega arith in
          inl (rw t at e, omega (arith, to_all (suc i) (λ j g. omega (arith, rise j i (omega arith) (omega arith))), rw m at (to_rises (suc i) (n - suc i))))
      go (inr t) =
          let l : y < get_or cs i 0 = leb-false (get_or cs i 0) y t in
          let m : i + (n - i) ≡ n = omega arith in
          inr (rw t at e, omega (arith, to_most i, rw m at (to_stays i (n - i) (λ j a g. omega (arith, rise i j a (omega arith))))))

  -- the turns of the search: three looks at once, and one
  module _ (n at left : ℕ) (rise : InOrder cs) (fits : n ≤ length cs) (w : Near at left (composites_to cs y n)) (inside : at + left ≤ n) where
    pub turn_quarters : 3 ≤ left → (a b c : ℕ) → a ≡ passes (at + (left + 1) / 4 - 1) → b ≡ passes (at + 2 * ((left + 1) / 4) - 1) → c ≡ passes (at + 3 * ((left + 1) / 4) - 1)
        → ((a + b + c) * ((left + 1) / 4) ≤ 3 * ((left + 1) / 4)) × Near (at + (a + b + c) * ((left + 1) / 4)) (left - 3 * ((left + 1) / 4)) (composites_to cs y n)
    turn_quarters h a b c ea eb ec =
        near_quarters (composites_to cs y n) at left ((left + 1) / 4) h refl w a b c
        (counts n (at + (left + 1) / 4 - 1) a rise fits (omega arith) ea)
        (counts n (at + 2 * ((left + 1) / 4) - 1) b rise fits (omega arith) eb)
        (counts n (at + 3 * ((left + 1) / 4) - 1) c rise fits (omega arith) ec)

    pub turn_one : 0 < left → (r : ℕ) → r ≡ passes at → Near (at + r) (left - 1) (composites_to cs y n) × (at + r + (left - 1) ≤ at + left)
    turn_one h r e = near_one (composites_to cs y n) at left r h (counts n at r rise fits (omega arith) e) w

-- ---- the end of a composite's pairs

module _ (cs : List ℕ) (n y : ℕ) where
  module _ (rise : InOrder cs) (fits : n ≤ length cs) (r : ℕ) (e : r ≡ composites_to cs y n) where
    -- a place's composite is at most y exactly before place r
    before : (j : ℕ) → j < n → get_or cs j 0 ≤ y → j < r
    before j h l = go (counts cs y n j (passes cs y j) rise fits h refl)
      where
        go : Counts (composites_to cs y n) j (passes cs y j) → j < r
        go (inl (q, g)) = omega arith
        go (inr (q, g)) = absurd (omega (arith, rw (le-leb (get_or cs j 0) y l) at q))

    at_most : (j : ℕ) → j < n → j < r → get_or cs j 0 ≤ y
    at_most j h l = go (counts cs y n j (passes cs y j) rise fits h refl) (is? (leb (get_or cs j 0) y))
      where
        go : Counts (composites_to cs y n) j (passes cs y j) → (leb (get_or cs j 0) y ≡ true) ⊎ (leb (get_or cs j 0) y ≡ false) → get_or cs j 0 ≤ y
        go c (inl t) = leb-true (get_or cs j 0) y t
        go (inl (q, g)) (inr t) = absurd (omega (arith, rw t at q))
        go (inr (q, g)) (inr t) = absurd (omega arith)

    inside : r ≤ n
    inside = omega (arith, to_most cs y n)

    pub end_some : (n ≡ 0 → ⊥) → get_or cs 0 0 ≤ y → 0 < r
    end_some z l = before 0 (omega arith) l

    pub end_found : (n ≡ 0 → ⊥) → get_or cs 0 0 ≤ y → get_or cs (r - 1) 0 ≡ y → PairsEnd cs n y r
    end_found z l q = record { inside = inside; own = λ h. q; past = λ j g h t. absurd (omega (arith, before j h (omega arith))) }

    pub end_lacking : (n ≡ 0 → ⊥) → get_or cs 0 0 ≤ y → (get_or cs (r - 1) 0 ≡ y → ⊥) → PairsEnd cs n y 0
    end_lacking z l ne = record { inside = omega arith; own = λ h. absurd (omega arith); past = λ j g h t. ne (here j h t) }
      where
        here : (j : ℕ) → j < n → get_or cs j 0 ≡ y → get_or cs (r - 1) 0 ≡ y
        here j h t =
            let b : j < r = before j h (omega arith) in
            omega (arith, at_most (r - 1) (omega (arith, inside)) (omega arith), rise j (r - 1) (omega arith) (omega (arith, inside)))
