-- Numbers below n that pass a test, members of a list, and lists that ascend strictly.
-- `strict_same`: two such lists with the same members are one.
use Prim.Native.Nat.{ℕ, zero, suc, ◌≤◌, ◌<◌}
use mathlib.Core.Path.{◌≡◌, refl, sym, ap, ◌∙◌}
use mathlib.Core.Logic.{◌⊎◌, inl, inr}
use mathlib.Core.Bool.{Bool, true, false, cond, ◌||◌, false≢true, true≢false}
use mathlib.Core.List.{List, [], ◌∷◌, ◌++◌, append-nil}
use native.Mathlib.Omega.{arith}
use lib.Dec.{ltb, eqb}
use borrow.Author.Tests.{ltb-true, ltb-false, eqb-true, eq-eqb}
use Rattle.loc_leaf.proofs.Booleans.{is?, either, or_left, or_right}
use Rattle.loc_calls.specs.Parts.{some_below, those_below, member, Strict}

-- ---- one of the numbers below n passes

pub record Passing (f : ℕ → Bool) (n : ℕ) : Type 0 where
  pub place : ℕ
  pub inside : place < n
  pub holds : f place ≡ true

pub some_found : (f : ℕ → Bool) (n : ℕ) → some_below f n ≡ true → Passing f n
unfolding some_below
some_found f zero e = absurd (false≢true e)
some_found f (suc n) e = go (either (some_below f n) (f n) e) (some_found f n)
  where
    go : (some_below f n ≡ true) ⊎ (f n ≡ true) → (some_below f n ≡ true → Passing f n) → Passing f (suc n)
    go (inl t) more = record { place = (more t).place; inside = omega (arith, (more t).inside); holds = (more t).holds }
    go (inr t) more = record { place = n; inside = omega arith; holds = t }

pub some_of : (f : ℕ → Bool) (n j : ℕ) → j < n → f j ≡ true → some_below f n ≡ true
unfolding some_below
some_of f zero j h t = absurd (omega arith)
some_of f (suc n) j h t = go (is? (ltb j n)) (some_of f n j)
  where
    go : (ltb j n ≡ true) ⊎ (ltb j n ≡ false) → (j < n → f j ≡ true → some_below f n ≡ true) → (some_below f n || f n) ≡ true
    go (inl q) more = or_left (some_below f n) (f n) (more (ltb-true j n q) t)
    go (inr q) more =
        let e : j ≡ n = omega (arith, ltb-false j n q) in
        or_right (some_below f n) (f n) (ap f (sym e) ∙ t)

pub none_at : (f : ℕ → Bool) (n : ℕ) → some_below f n ≡ false → (j : ℕ) → j < n → f j ≡ false
none_at f n e j h = go (is? (f j))
  where
    go : (f j ≡ true) ⊎ (f j ≡ false) → f j ≡ false
    go (inl t) = absurd (true≢false (sym (some_of f n j h t) ∙ e))
    go (inr t) = t

-- ---- members

pub no_member : (y : ℕ) → member y [] ≡ true → ⊥
unfolding member
no_member y e = false≢true e

pub member_first : (z : ℕ) (l : List ℕ) → member z (z ∷ l) ≡ true
unfolding member
member_first z l = or_left (eqb z z) (member z l) (eq-eqb z z refl)

pub member_later : (z : ℕ) (l : List ℕ) (y : ℕ) → member y l ≡ true → member y (z ∷ l) ≡ true
unfolding member
member_later z l y e = or_right (eqb z y) (member y l) e

pub member_cases : (z : ℕ) (l : List ℕ) (y : ℕ) → member y (z ∷ l) ≡ true → (z ≡ y) ⊎ (member y l ≡ true)
unfolding member
member_cases z l y e = go (either (eqb z y) (member y l) e)
  where
    go : (eqb z y ≡ true) ⊎ (member y l ≡ true) → (z ≡ y) ⊎ (member y l ≡ true)
    go (inl t) = inl (eqb-true z y t)
    go (inr t) = inr t

-- one that is not the first is a later one
pub member_past : (z : ℕ) (l : List ℕ) (y : ℕ) → (z ≡ y → ⊥) → member y (z ∷ l) ≡ true → member y l ≡ true
member_past z l y n e = go (member_cases z l y e)
  where
    go : (z ≡ y) ⊎ (member y l ≡ true) → member y l ≡ true
    go (inl t) = absurd (n t)
    go (inr t) = t

-- of a list with one entry more at its end
member_front : (y : ℕ) (l m : List ℕ) → member y l ≡ true → member y (l ++ m) ≡ true
member_front y [] m e = absurd (no_member y e)
member_front y (z ∷ l) m e = go (member_cases z l y e) (member_front y l m)
  where
    go : (z ≡ y) ⊎ (member y l ≡ true) → (member y l ≡ true → member y (l ++ m) ≡ true) → member y (z ∷ (l ++ m)) ≡ true
    go (inl t) more = rw t (member_first y (l ++ m))
    go (inr t) more = member_later z (l ++ m) y (more t)

member_last : (y : ℕ) (l : List ℕ) → member y (l ++ (y ∷ [])) ≡ true
member_last y [] = member_first y []
member_last y (z ∷ l) = member_later z (l ++ (y ∷ [])) y (member_last y l)

member_end : (y : ℕ) (l : List ℕ) (z : ℕ) → member y (l ++ (z ∷ [])) ≡ true → (member y l ≡ true) ⊎ (z ≡ y)
member_end y [] z e = go (member_cases z [] y e)
  where
    go : (z ≡ y) ⊎ (member y [] ≡ true) → (member y [] ≡ true) ⊎ (z ≡ y)
    go (inl t) = inr t
    go (inr t) = inl t
member_end y (w ∷ l) z e = go (member_cases w (l ++ (z ∷ [])) y e) (member_end y l z)
  where
    later : (member y l ≡ true) ⊎ (z ≡ y) → (member y (w ∷ l) ≡ true) ⊎ (z ≡ y)
    later (inl t) = inl (member_later w l y t)
    later (inr t) = inr t

    go : (w ≡ y) ⊎ (member y (l ++ (z ∷ [])) ≡ true) → (member y (l ++ (z ∷ [])) ≡ true → (member y l ≡ true) ⊎ (z ≡ y)) → (member y (w ∷ l) ≡ true) ⊎ (z ≡ y)
    go (inl t) more = inl (rw t (member_first y l))
    go (inr t) more = later (more t)

-- ---- lists that ascend strictly

pub strict_none : Strict []
unfolding Strict
strict_none = tt

pub strict_cons : (z : ℕ) (l : List ℕ) → ((y : ℕ) → member y l ≡ true → z < y) → Strict l → Strict (z ∷ l)
unfolding Strict
strict_cons z l a s = (a, s)

strict_end : (l : List ℕ) (z : ℕ) → Strict l → ((y : ℕ) → member y l ≡ true → y < z) → Strict (l ++ (z ∷ []))
unfolding Strict
strict_end [] z s a = ((λ y e. absurd (no_member y e)), tt)
strict_end (w ∷ l) z s a = (λ y e. above y (member_end y l z e), strict_end l z s.1 (λ y e. a y (member_later w l y e)))
  where
    above : (y : ℕ) → (member y l ≡ true) ⊎ (z ≡ y) → w < y
    above y (inl t) = s.0 y t
    above y (inr t) = omega (arith, a w (member_first w l))

-- the first entry is the least
strict_least : (z : ℕ) (l : List ℕ) → Strict (z ∷ l) → (y : ℕ) → member y (z ∷ l) ≡ true → z ≤ y
unfolding Strict
strict_least z l s y e = go (member_cases z l y e)
  where
    go : (z ≡ y) ⊎ (member y l ≡ true) → z ≤ y
    go (inl t) = omega arith
    go (inr t) = omega (arith, s.0 y t)

pub strict_same : (l m : List ℕ) → Strict l → Strict m → ((y : ℕ) → member y l ≡ true → member y m ≡ true) → ((y : ℕ) → member y m ≡ true → member y l ≡ true) → l ≡ m
unfolding Strict
strict_same [] [] s t f g = refl
strict_same [] (w ∷ m) s t f g = absurd (no_member w (g w (member_first w m)))
strict_same (z ∷ l) [] s t f g = absurd (no_member z (f z (member_first z l)))
strict_same (z ∷ l) (w ∷ m) s t f g =
    let a : w ≤ z = strict_least w m t z (f z (member_first z l)) in
    let b : z ≤ w = strict_least z l s w (g w (member_first w m)) in
    let e : z ≡ w = omega arith in
    let more : l ≡ m =
    strict_same l m s.1 t.1
    (λ y h. member_past w m y (λ q. absurd (omega (arith, s.0 y h))) (f y (member_later z l y h)))
    (λ y h. member_past z l y (λ q. absurd (omega (arith, t.0 y h))) (g y (member_later w m y h))) in
    (λ i. e i ∷ more i)

-- ---- the numbers below n that pass

pub those_pass : (f : ℕ → Bool) (n y : ℕ) → member y (those_below f n) ≡ true → (y < n) × (f y ≡ true)
unfolding those_below
those_pass f zero y e = absurd (no_member y e)
those_pass f (suc n) y e = go (is? (f n)) (those_pass f n y)
  where
    last : f n ≡ true → (member y (those_below f n) ≡ true → (y < n) × (f y ≡ true)) → (member y (those_below f n) ≡ true) ⊎ (n ≡ y) → (y < suc n) × (f y ≡ true)
    last t more (inl q) = (omega (arith, (more q).0), (more q).1)
    last t more (inr q) = (omega arith, ap f (sym q) ∙ t)

    go : (f n ≡ true) ⊎ (f n ≡ false) → (member y (those_below f n) ≡ true → (y < n) × (f y ≡ true)) → (y < suc n) × (f y ≡ true)
    go (inl t) more = last t more (member_end y (those_below f n) n (rw t at e))
    go (inr t) more =
        let w : member y (those_below f n) ≡ true = rw (t, append-nil (those_below f n)) at e in
        (omega (arith, (more w).0), (more w).1)

pub passing_there : (f : ℕ → Bool) (n y : ℕ) → y < n → f y ≡ true → member y (those_below f n) ≡ true
unfolding those_below
passing_there f zero y h t = absurd (omega arith)
passing_there f (suc n) y h t = go (is? (ltb y n)) (passing_there f n y)
  where
    go : (ltb y n ≡ true) ⊎ (ltb y n ≡ false) → (y < n → f y ≡ true → member y (those_below f n) ≡ true) → member y (those_below f n ++ cond (f n) (n ∷ []) []) ≡ true
    go (inl q) more = member_front y (those_below f n) (cond (f n) (n ∷ []) []) (more (ltb-true y n q) t)
    go (inr q) more =
        let e : n ≡ y = omega (arith, ltb-false y n q) in
        let u : f n ≡ true = ap f e ∙ t in
        rw (u, ← e) (member_last n (those_below f n))

pub those_strict : (f : ℕ → Bool) (n : ℕ) → Strict (those_below f n)
unfolding those_below
those_strict f zero = strict_none
those_strict f (suc n) = go (is? (f n)) (those_strict f n)
  where
    go : (f n ≡ true) ⊎ (f n ≡ false) → Strict (those_below f n) → Strict (those_below f n ++ cond (f n) (n ∷ []) [])
    go (inl t) s = rw t (strict_end (those_below f n) n s (λ y e. (those_pass f n y e).0))
    go (inr t) s = rw (t, append-nil (those_below f n)) s
