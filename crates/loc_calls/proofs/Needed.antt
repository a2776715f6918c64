-- What chains of pairs reach: the computed test and list against `Needs`, in both directions.
-- And what lists that are not refused satisfy, by which the answer is what chains reach.
use Prim.Native.Nat.{ℕ, zero, suc, ◌≤◌, ◌<◌}
use mathlib.Core.Path.{◌≡◌, refl, subst}
use mathlib.Core.Logic.{◌⊎◌, inl, inr}
use mathlib.Core.Bool.{Bool, true, false, not, ◌&&◌, ◌||◌, false≢true}
use mathlib.Core.List.{List, ◌∷◌}
use native.Mathlib.Omega.{arith}
use lib.Dec.{leb, ltb, eqb}
use lib.ListN.{length, get_or}
use borrow.Author.Tests.{ltb-true, ltb-false, leb-false, eqb-true, eq-eqb, not-false}
use Rattle.loc_leaf.specs.Answers.{refuse, ◌or_else◌}
use Rattle.loc_leaf.proofs.Booleans.{is?, both_left, both_right, either, or_right, not_true_is_false}
use Rattle.loc_leaf.proofs.Refusals.{or_else_left, or_else_right, refuse_zero}
use Rattle.loc_calls.specs.Reading.{within}
use Rattle.loc_calls.specs.Parts.{some_below, those_below, PairOf, Needs, direct, through, reaches, needed, strange, comes_before, misplaced, first_fault, pairs_refusal, InOrder, Fit, member, MembersNeeded, Reached, AnswersAreReached}
use Rattle.loc_calls.proofs.Members.{Passing, some_found, some_of, none_at, strict_same, those_pass, passing_there, those_strict}

-- ---- chains

module _ (cs ps : List ℕ) where
  -- one pair more at the end
  pub needs_more : {x z y : ℕ} → Needs cs ps x z → PairOf cs ps z y → Needs cs ps x y
  needs_more (direct w) v = through w (direct v)
  needs_more (through w c) v = through w (needs_more c v)

  -- the pair at place i leads from x to z, and a chain of at most t pairs from z to y, or z is y
  abbrev leads : ℕ → ℕ → ℕ → ℕ → Bool
  leads t x y i = eqb (get_or cs i 0) x && (eqb (get_or ps i 0) y || reaches cs ps t (get_or ps i 0) y)

  -- the test's yes is a chain
  pub chain_of : (t x y : ℕ) → reaches cs ps t x y ≡ true → Needs cs ps x y
  unfolding reaches
  chain_of zero x y e = absurd (false≢true e)
  chain_of (suc t) x y e = go (some_found (leads t x y) (length cs) e) (λ z. chain_of t z y)
    where
      ends : {z : ℕ} → PairOf cs ps x z → (reaches cs ps t z y ≡ true → Needs cs ps z y) → (eqb z y ≡ true) ⊎ (reaches cs ps t z y ≡ true) → Needs cs ps x y
      ends {z} w more (inl q) = direct (subst (PairOf cs ps x) (eqb-true z y q) w)
      ends {z} w more (inr q) = through w (more q)

      go : Passing (leads t x y) (length cs) → ((z : ℕ) → reaches cs ps t z y ≡ true → Needs cs ps z y) → Needs cs ps x y
      go h more =
          let z : ℕ = get_or ps h.place 0 in
          let c : get_or cs h.place 0 ≡ x = eqb-true (get_or cs h.place 0) x (both_left _ _ h.holds) in
          ends (record { place = h.place; inside = h.inside; composite = c; component = refl }) (more z)
          (either (eqb z y) (reaches cs ps t z y) (both_right (eqb (get_or cs h.place 0) x) _ h.holds))

  module _ (falls : (i : ℕ) → i < length cs → get_or ps i 0 < get_or cs i 0) where
    pair_falls : {x y : ℕ} → PairOf cs ps x y → y < x
    pair_falls w = omega (arith, falls w.place w.inside, w.composite, w.component)

    pub needs_falls : {x y : ℕ} → Needs cs ps x y → y < x
    needs_falls (direct w) = pair_falls w
    needs_falls (through w c) = omega (arith, pair_falls w, needs_falls c)

    link : {x : ℕ} (y t z : ℕ) → PairOf cs ps x z → (eqb z y || reaches cs ps t z y) ≡ true → reaches cs ps (suc t) x y ≡ true
    unfolding reaches
    link {x} y t z w e = some_of (leads t x y) (length cs) w.place w.inside (rw (eq-eqb (get_or cs w.place 0) x w.composite, w.component) e)

    -- every chain is found: each pair of it falls, so from x it has at most x pairs
    pub chain_found : {x y : ℕ} → Needs cs ps x y → (t : ℕ) → x ≤ t → reaches cs ps t x y ≡ true
    chain_found (direct w) zero h = absurd (omega (arith, pair_falls w))
    chain_found (through w c) zero h = absurd (omega (arith, pair_falls w))
    chain_found {y = y} (direct w) (suc t) h = link y t y w (rw (eq-eqb y y refl) refl)
    chain_found {y = y} (through {z = z} w c) (suc t) h = link y t z w (or_right (eqb z y) (reaches cs ps t z y) (chain_found c t (omega (arith, pair_falls w))))

    pub reached : (x : ℕ) → Reached cs ps x
    unfolding needed
    reached x = record {
      members = all;
      own = not_true_is_false (member x (needed cs ps x)) (λ e. absurd (omega (arith, needs_falls (all.chained x e))));
      ascends = those_strict (reaches cs ps x x) x;
      only = λ l s w. strict_same l (needed cs ps x) s (those_strict (reaches cs ps x x) x) (λ y e. all.listed y (w.chained y e)) (λ y e. w.listed y (all.chained y e));
    }
      where
        all : MembersNeeded cs ps x (those_below (reaches cs ps x x) x)
        all = record {
          chained = λ y e. chain_of x x y (those_pass (reaches cs ps x x) x y e).1;
          listed = λ y c. passing_there (reaches cs ps x x) x y (needs_falls c) (chain_found c x (omega arith));
        }

-- ---- lists that are not refused

-- neighbours in order make a list in order
in_order : (cs : List ℕ) → ((i : ℕ) → i < length cs → get_or (0 ∷ cs) i 0 ≤ get_or cs i 0) → InOrder cs
in_order cs f i zero a h =
    let e : i ≡ 0 = omega arith in
    rw e (omega arith)
in_order cs f i (suc j) a h = go (is? (ltb j i)) (in_order cs f i j)
  where
    go : (ltb j i ≡ true) ⊎ (ltb j i ≡ false) → (i ≤ j → j < length cs → get_or cs i 0 ≤ get_or cs j 0) → get_or cs i 0 ≤ get_or cs (suc j) 0
    go (inl t) more =
        let e : i ≡ suc j = omega (arith, ltb-true j i t) in
        rw e (omega arith)
    go (inr t) more = omega (arith, more (ltb-false j i t) (omega arith), f (suc j) h)

before_le : (d q c p : ℕ) → comes_before d q c p ≡ true → d ≤ c
unfolding comes_before
before_le d q c p e = go (either (ltb d c) (eqb d c && ltb q p) e)
  where
    go : (ltb d c ≡ true) ⊎ ((eqb d c && ltb q p) ≡ true) → d ≤ c
    go (inl t) = omega (arith, ltb-true d c t)
    go (inr t) = omega (arith, eqb-true d c (both_left (eqb d c) (ltb q p) t))

module _ (n : ℕ) (cs ps : List ℕ) (x : ℕ) (e : pairs_refusal n cs ps x ≡ 0) where
  not_7 : length cs ≡ length ps
  unfolding pairs_refusal
  not_7 = eqb-true (length cs) (length ps) (not-false (eqb (length cs) (length ps)) (refuse_zero _ 6 (or_else_left (refuse (not (eqb (length cs) (length ps))) 7) _ e)))

  after_7 : (refuse (ltb 1024 (length cs)) 15 or_else refuse (not (within n x)) 27 or_else first_fault n cs ps (length cs)) ≡ 0
  unfolding pairs_refusal
  after_7 = or_else_right (refuse (not (eqb (length cs) (length ps))) 7) _ e

  not_15 : length cs ≤ 1024
  not_15 = ltb-false 1024 (length cs) (refuse_zero _ 14 (or_else_left (refuse (ltb 1024 (length cs)) 15) _ after_7))

  no_fault : first_fault n cs ps (length cs) ≡ 0
  no_fault = or_else_right (refuse (not (within n x)) 27) _ (or_else_right (refuse (ltb 1024 (length cs)) 15) _ after_7)

  -- each of the three
  abbrev some_27 : Bool
  some_27 = some_below (λ i. strange n (get_or cs i 0) (get_or ps i 0)) (length cs)

  abbrev some_28 : Bool
  some_28 = some_below (λ i. leb (get_or cs i 0) (get_or ps i 0)) (length cs)

  after_27 : (refuse some_28 28 or_else refuse (some_below (misplaced cs ps) (length cs)) 29) ≡ 0
  unfolding first_fault
  after_27 = or_else_right (refuse some_27 27) _ no_fault

  module _ (i : ℕ) (h : i < length cs) where
    not_27 : (within n (get_or cs i 0) && within n (get_or ps i 0)) ≡ true
    unfolding first_fault strange
    not_27 = not-false _ (none_at (λ j. strange n (get_or cs j 0) (get_or ps j 0)) (length cs) (refuse_zero _ 26 (or_else_left (refuse some_27 27) _ no_fault)) i h)

    not_28 : get_or ps i 0 < get_or cs i 0
    not_28 = leb-false (get_or cs i 0) (get_or ps i 0) (none_at (λ j. leb (get_or cs j 0) (get_or ps j 0)) (length cs) (refuse_zero _ 27 (or_else_left (refuse some_28 28) _ after_27)) i h)

    not_29 : get_or (0 ∷ cs) i 0 ≤ get_or cs i 0
    unfolding misplaced
    not_29 = before_le _ (get_or (0 ∷ ps) i 0) _ (get_or ps i 0) (not-false _ (none_at (misplaced cs ps) (length cs) (refuse_zero _ 28 (or_else_right (refuse some_28 28) _ after_27)) i h))

  pub pairs_fit : Fit cs ps
  unfolding within
  pairs_fit = record {
    same = not_7;
    few = not_15;
    some = λ i h. ltb-true 0 (get_or ps i 0) (both_left _ _ (both_right (within n (get_or cs i 0)) _ (not_27 i h)));
    below = not_28;
    order = in_order cs not_29;
  }

pub answers_are_reached : AnswersAreReached
unfolding AnswersAreReached
answers_are_reached n cs ps x e = reached cs ps (pairs_fit n cs ps x e).below x
