-- The refusals that count, pairs and record decide, in the form in which the code meets them.
-- `fault_next`: with one pair more, the first fault is the lesser of that of the pairs before and the pair's own.
use Prim.Native.Nat.{ℕ, zero, suc, ◌+◌, ◌≤◌, ◌<◌, min}
use mathlib.Core.Path.{◌≡◌, refl, ap, ◌∙◌}
use mathlib.Core.Logic.{◌⊎◌}
use Rattle.std.proofs.lemmas.Bool.Decides.{nat_tests}
use Rattle.std.specs.Prelude.{Some}
use Rattle.std.specs.Ordering.{nat_cmp, partial_lt, partial_ordering_then}
use mathlib.Core.Bool.{Bool, true, false, not, ◌||◌}
use mathlib.Core.List.{List, ◌∷◌}
use native.Mathlib.Omega.{arith}
use lib.Dec.{leb}
use lib.ListN.{length, get_or}
use borrow.Author.Tests.{lt-ltb, le-ltb, le-leb, eq-eqb, ne_eqb}
use Rattle.loc_leaf.specs.Answers.{refuse, ◌or_else◌}
use Rattle.loc_calls.specs.Reading.{within}
use Rattle.loc_calls.specs.Parts.{some_below, strange, comes_before, misplaced, first_fault, pairs_refusal}
use Rattle.loc_parts.specs.Faults.{pair_fault, least_fault}

-- ---- one pair

-- the order of tuples is that of pairs
pub tuple_before : (d q c p : ℕ) → partial_lt {X = ℕ × ℕ} (λ x y. partial_ordering_then (Some (nat_cmp x.0 y.0)) (Some (nat_cmp x.1 y.1))) (d, q) (c, p) ≡ comes_before d q c p
unfolding comes_before
tuple_before d q c p = grind (arith, nat_tests)

module _ (n c p : ℕ) where
  module _ (d q : ℕ) where
    pub fault_raised : (r : ℕ) → r ≡ (refuse (strange n c p) 27 or_else 28) → c ≤ p → r ≡ pair_fault n d q c p
    unfolding pair_fault
    fault_raised r e h = rw (le-leb c p h) e

    pub fault_strange : (p ≡ 0) ⊎ (n < c) → p < c → 27 ≡ pair_fault n d q c p
    unfolding pair_fault strange within
    fault_strange s h = grind (arith, nat_tests)

    pub fault_order : p < c → (p ≡ 0 → ⊥) → c ≤ n → (t : Bool) → t ≡ comes_before d q c p → refuse (not t) 29 ≡ pair_fault n d q c p
    unfolding pair_fault strange within
    fault_order b z h t e = grind (arith, nat_tests)

-- ---- the lesser of two numbers

pub least_first : (a b : ℕ) → b ≡ 0 → a ≡ least_fault a b
unfolding least_fault
least_first a b e = rw e refl

pub least_second : (a b : ℕ) → (b ≡ 0 → ⊥) → a ≡ 0 → b ≡ least_fault a b
unfolding least_fault
least_second a zero h e = absurd (h refl)
least_second a (suc b) h e = rw e refl

pub least_both : (a b r : ℕ) → (b ≡ 0 → ⊥) → (a ≡ 0 → ⊥) → r ≡ min a b → r ≡ least_fault a b
unfolding least_fault
least_both a zero r h g e = absurd (h refl)
least_both zero (suc b) r h g e = absurd (g refl)
least_both (suc a) (suc b) r h g e = e

-- ---- all pairs

-- 27, 28, 29 by what holds of some pair
abbrev by_tests : Bool → Bool → Bool → ℕ
by_tests a b c = refuse a 27 or_else refuse b 28 or_else refuse c 29

least_tests : (a b c x y z : Bool) → by_tests (a || x) (b || y) (c || z) ≡ least_fault (by_tests a b c) (by_tests x y z)
unfolding least_fault
least_tests true b c true y z = refl
least_tests true b c false true z = refl
least_tests true b c false false true = refl
least_tests true b c false false false = refl
least_tests false true c true y z = refl
least_tests false true c false true z = refl
least_tests false true c false false true = refl
least_tests false true c false false false = refl
least_tests false false true true y z = refl
least_tests false false true false true z = refl
least_tests false false true false false true = refl
least_tests false false true false false false = refl
least_tests false false false true y z = refl
least_tests false false false false true z = refl
least_tests false false false false false true = refl
least_tests false false false false false false = refl

-- what the loop holds of the first i pairs: their first fault, and the last of them, (0, 0) where there is none
pub record Faults (n : ℕ) (cs ps : List ℕ) (number d q i : ℕ) : Type 0 where
  pub inside : i ≤ length cs
  pub number_is : number ≡ first_fault n cs ps i
  pub composite : d ≡ get_or (0 ∷ cs) i 0
  pub component : q ≡ get_or (0 ∷ ps) i 0

module _ (n : ℕ) (cs ps : List ℕ) where
  pub faults_begin : Faults n cs ps 0 0 0 0
  unfolding first_fault some_below
  faults_begin = record { inside = omega arith; number_is = refl; composite = refl; component = refl }

  fault_next : (i : ℕ) → first_fault n cs ps (suc i) ≡ least_fault (first_fault n cs ps i) (pair_fault n (get_or (0 ∷ cs) i 0) (get_or (0 ∷ ps) i 0) (get_or cs i 0) (get_or ps i 0))
  unfolding first_fault some_below pair_fault misplaced
  fault_next i =
      least_tests (some_below (λ j. strange n (get_or cs j 0) (get_or ps j 0)) i) (some_below (λ j. leb (get_or cs j 0) (get_or ps j 0)) i) (some_below (misplaced cs ps) i)
      (strange n (get_or cs i 0) (get_or ps i 0)) (leb (get_or cs i 0) (get_or ps i 0)) (misplaced cs ps i)

  pub faults_next : (number d q c p i j : ℕ) → Faults n cs ps number d q i → (i < length cs) × (c ≡ get_or cs i 0) × (p ≡ get_or ps i 0) → j ≡ i + 1 → (f : ℕ) → f ≡ pair_fault n d q c p
      → (r : ℕ) → r ≡ least_fault number f → Faults n cs ps r c p j
  faults_next number d q c p i j w here one f e r l =
      let next : j ≡ suc i = omega arith in
      rw (next, here.1, here.2) (record {
        inside = omega (arith, here.0);
        number_is = rw (fault_next i, ← w.number_is, ← w.composite, ← w.component, ← here.1, ← here.2, ← e) l;
        composite = refl;
        component = refl;
      })

  pub faults_end : (number d q i : ℕ) → Faults n cs ps number d q i → length cs ≤ i → number ≡ first_fault n cs ps (length cs)
  faults_end number d q i w h =
      let e : i ≡ length cs = omega (arith, w.inside) in
      w.number_is ∙ ap (first_fault n cs ps) e

  -- ---- 7, 15, 27 of the record, and the pairs

  module _ (x : ℕ) where
    pub refuses_7 : (length cs ≡ length ps → ⊥) → 7 ≡ pairs_refusal n cs ps x
    unfolding pairs_refusal
    refuses_7 h = rw (ne_eqb (length cs) (length ps) h) refl

    module _ (same : length cs ≡ length ps) where
      pub refuses_15 : 1024 < length cs → 15 ≡ pairs_refusal n cs ps x
      unfolding pairs_refusal
      refuses_15 h = rw (eq-eqb (length cs) (length ps) same, lt-ltb 1024 (length cs) h) refl

      module _ (few : length cs ≤ 1024) (b : Bool) (e : b ≡ within n x) where
        pub refuses_27 : b ≡ false → 27 ≡ pairs_refusal n cs ps x
        unfolding pairs_refusal
        refuses_27 t = rw (eq-eqb (length cs) (length ps) same, le-ltb 1024 (length cs) few, ← e, t) refl

        pub refuses_pairs : b ≡ true → (r : ℕ) → r ≡ first_fault n cs ps (length cs) → r ≡ pairs_refusal n cs ps x
        unfolding pairs_refusal
        refuses_pairs t r q = rw (eq-eqb (length cs) (length ps) same, le-ltb 1024 (length cs) few, ← e, t) q
