-- A list in order, each entry one time: its members, that it ascends strictly, and the loop that keeps it.
-- `distinct_needed`: of components that are what a record needs, this is the answer.
use Prim.Native.Nat.{ℕ, ◌+◌, ◌-◌, ◌≤◌, ◌<◌}
use mathlib.Core.Path.{◌≡◌, refl, sym, ap, ◌∙◌, subst}
use mathlib.Core.Logic.{◌⊎◌, inl, inr}
use mathlib.Core.Bool.{true, false, cond}
use mathlib.Core.List.{List, [], ◌∷◌, ◌++◌, append-nil, append_assoc}
use native.Mathlib.Numerals.{add-one}
use native.Mathlib.Omega.{arith}
use lib.Dec.{eqb}
use lib.ListN.{length, get_or, take, drop, set, length-drop, drop_of_length-le}
use lib.Seq.{drop-cons, take-suc-set, take_all}
use borrow.Author.Tests.{eqb-true, eqb-false, eq-eqb, ne_eqb}
use Rattle.loc_leaf.proofs.Booleans.{is?}
use Rattle.loc_calls.specs.Parts.{Needs, direct, through, Fit, needed, member, Strict, MembersNeeded}
use Rattle.loc_calls.proofs.Members.{no_member, member_first, member_later, member_cases, member_past, strict_none, strict_cons}
use Rattle.loc_calls.proofs.Needed.{reached}
use Rattle.loc_order.specs.Order.{sorted, All, Ordered}
use Rattle.loc_order.proofs.OrderLaws.{all_sorted, sorted_all, sorted_ordered}
use Rattle.loc_parts.specs.Pass.{distinct}

-- ---- members

-- what holds of every entry holds of every member, and back
all_members : (P : ℕ → Type 0) (l : List ℕ) → All P l → (y : ℕ) → member y l ≡ true → P y
unfolding All
all_members P [] a y e = absurd (no_member y e)
all_members P (z ∷ l) a y e = go (member_cases z l y e) (all_members P l a.1 y)
  where
    go : (z ≡ y) ⊎ (member y l ≡ true) → (member y l ≡ true → P y) → P y
    go (inl t) more = subst P t a.0
    go (inr t) more = more t

members_all : (P : ℕ → Type 0) (l : List ℕ) → ((y : ℕ) → member y l ≡ true → P y) → All P l
unfolding All
members_all P [] f = tt
members_all P (z ∷ l) f = (f z (member_first z l), members_all P l (λ y e. f y (member_later z l y e)))

-- a sorted list has the members of the list
module _ (l : List ℕ) where
  sorted_member : (y : ℕ) → member y (sorted l) ≡ true → member y l ≡ true
  sorted_member y e = all_members (λ z. member z l ≡ true) (sorted l) (sorted_all (λ z. member z l ≡ true) l (members_all (λ z. member z l ≡ true) l (λ z t. t))) y e

  member_sorted : (y : ℕ) → member y l ≡ true → member y (sorted l) ≡ true
  member_sorted y e = all_members (λ z. member z (sorted l) ≡ true) l (all_sorted (λ z. member z (sorted l) ≡ true) l (members_all (λ z. member z (sorted l) ≡ true) (sorted l) (λ z t. t))) y e

distinct_member : (y z : ℕ) (l : List ℕ) → member y (distinct z l) ≡ true → member y l ≡ true
unfolding distinct
distinct_member y z [] e = e
distinct_member y z (w ∷ l) e = go (is? (eqb w z)) (λ v. distinct_member y v l)
  where
    first : ((v : ℕ) → member y (distinct v l) ≡ true → member y l ≡ true) → (w ≡ y) ⊎ (member y (distinct w l) ≡ true) → member y (w ∷ l) ≡ true
    first more (inl q) = rw q (member_first y l)
    first more (inr q) = member_later w l y (more w q)

    go : (eqb w z ≡ true) ⊎ (eqb w z ≡ false) → ((v : ℕ) → member y (distinct v l) ≡ true → member y l ≡ true) → member y (w ∷ l) ≡ true
    go (inl t) more = member_later w l y (more z (rw t at e))
    go (inr t) more = first more (member_cases w (distinct w l) y (rw t at e))

-- but for z, which comes before the first
member_distinct : (y z : ℕ) (l : List ℕ) → (y ≡ z → ⊥) → member y l ≡ true → member y (distinct z l) ≡ true
unfolding distinct
member_distinct y z [] n e = e
member_distinct y z (w ∷ l) n e = go (is? (eqb w z)) (is? (eqb w y)) (λ v. member_distinct y v l)
  where
    go : (eqb w z ≡ true) ⊎ (eqb w z ≡ false) → (eqb w y ≡ true) ⊎ (eqb w y ≡ false) → ((v : ℕ) → (y ≡ v → ⊥) → member y l ≡ true → member y (distinct v l) ≡ true)
        → member y (cond (eqb w z) (distinct z l) (w ∷ distinct w l)) ≡ true
    go (inl t) (inl q) more = absurd (n (sym (eqb-true w y q) ∙ eqb-true w z t))
    go (inl t) (inr q) more = rw t (more z n (member_past w l y (eqb-false w y q) e))
    go (inr t) (inl q) more = rw (t, eqb-true w y q) (member_first y (distinct y l))
    go (inr t) (inr q) more = rw t (member_later w (distinct w l) y (more w (λ r. eqb-false w y q (sym r)) (member_past w l y (eqb-false w y q) e)))

-- ---- the answer

-- of a list in order whose entries are at least z
distinct_strict : (z : ℕ) (l : List ℕ) → Ordered l → All (λ y. z ≤ y) l → ((y : ℕ) → member y (distinct z l) ≡ true → z < y) × Strict (distinct z l)
unfolding distinct Ordered All
distinct_strict z [] o a = ((λ y e. absurd (no_member y e)), strict_none)
distinct_strict z (w ∷ l) o a = go (is? (eqb w z)) (λ v. distinct_strict v l)
  where
    go : (eqb w z ≡ true) ⊎ (eqb w z ≡ false) → ((v : ℕ) → Ordered l → All (λ y. v ≤ y) l → ((y : ℕ) → member y (distinct v l) ≡ true → v < y) × Strict (distinct v l))
        → ((y : ℕ) → member y (cond (eqb w z) (distinct z l) (w ∷ distinct w l)) ≡ true → z < y) × Strict (cond (eqb w z) (distinct z l) (w ∷ distinct w l))
    go (inl t) more = rw t (more z o.1 a.1)
    go (inr t) more = rw t ((λ y e. above y (member_cases w (distinct w l) y e)), strict_cons w (distinct w l) m.0 m.1)
      where
        m : ((y : ℕ) → member y (distinct w l) ≡ true → w < y) × Strict (distinct w l)
        m = more w o.1 o.0

        above : (y : ℕ) → (w ≡ y) ⊎ (member y (distinct w l) ≡ true) → z < y
        above y (inl e) = omega (arith, a.0, eqb-false w z t)
        above y (inr e) = omega (arith, a.0, m.0 y e)

module _ (cs ps : List ℕ) (fit : Fit cs ps) where
  -- no record 0
  needs_some : {x y : ℕ} → Needs cs ps x y → 0 < y
  needs_some (direct w) = omega (arith, fit.some w.place w.inside, w.component)
  needs_some (through w c) = needs_some c

  pub distinct_needed : (x : ℕ) (found : List ℕ) → MembersNeeded cs ps x found → distinct 0 (sorted found) ≡ needed cs ps x
  distinct_needed x found w =
      (reached cs ps fit.below x).only (distinct 0 (sorted found))
      (distinct_strict 0 (sorted found) (sorted_ordered found) (members_all (λ y. 0 ≤ y) (sorted found) (λ y e. omega arith))).1
      (record {
        chained = λ y e. w.chained y (sorted_member found y (distinct_member y 0 (sorted found) e));
        listed = λ y n. member_distinct y 0 (sorted found) (λ z. omega (arith, needs_some n)) (member_sorted found y (w.listed y n));
      })

  -- the words of the stage from s on, which are lent to the sort
  module _ (stage : List ℕ) (s : ℕ) where
    all_lent : take (length stage - s) (drop s stage) ≡ drop s stage
    all_lent = take_all (length stage - s) (drop s stage) (omega (arith, length-drop s stage))

    pub lent_long : length (take (length stage - s) (drop s stage)) ≡ length stage - s
    lent_long = ap length all_lent ∙ length-drop s stage

    pub stage_needed : (x : ℕ) (l : List ℕ) → MembersNeeded cs ps x (drop s stage) → l ≡ distinct 0 (sorted (take (length stage - s) (drop s stage))) → l ≡ needed cs ps x
    stage_needed x l w e = e ∙ ap (λ (m : List ℕ). distinct 0 (sorted m)) all_lent ∙ distinct_needed x (drop s stage) w

-- ---- the loop

-- of i entries that are passed r are kept; z was kept last, or is 0
pub record Keeping (src out : List ℕ) (r z i : ℕ) : Type 0 where
  pub inside : i ≤ length src
  pub few : r ≤ i
  pub kept : take r out ++ distinct z (drop i src) ≡ distinct 0 src

module _ (src out : List ℕ) (r z i : ℕ) (w : Keeping src out r z i) where
  module _ (h : i < length src) where
    abbrev y : ℕ
    y = get_or src i 0

    rest : drop i src ≡ y ∷ drop (i + 1) src
    rest = drop-cons src i 0 h ∙ ap (λ (m : ℕ). y ∷ drop m src) (sym (add-one i))

    pub keeping_same : y ≡ z → Keeping src out r z (i + 1)
    unfolding distinct
    keeping_same e = record {
      inside = omega arith;
      few = omega (arith, w.few);
      kept = ap (λ (l : List ℕ). take r out ++ l) (sym (ap (distinct z) rest ∙ rw (eq-eqb y z e) refl)) ∙ w.kept;
    }

    pub keeping_more : (y ≡ z → ⊥) → length src ≤ length out → Keeping src (set out r y) (r + 1) y (i + 1)
    unfolding distinct
    keeping_more e room = record {
      inside = omega arith;
      few = omega (arith, w.few);
      kept =
          ap (λ (m : ℕ). take m (set out r y) ++ distinct y (drop (i + 1) src)) (add-one r)
          ∙ ap (λ (l : List ℕ). l ++ distinct y (drop (i + 1) src)) (take-suc-set out r y (omega (arith, w.few)))
          ∙ append_assoc (take r out) (y ∷ []) (distinct y (drop (i + 1) src))
          ∙ ap (λ (l : List ℕ). take r out ++ l) (sym (ap (distinct z) rest ∙ rw (ne_eqb y z e) refl))
          ∙ w.kept;
    }

  pub keeping_few : length src ≤ i → r ≤ length src
  keeping_few h = omega (arith, w.few, w.inside)

  pub keeping_ends : length src ≤ i → take r out ≡ distinct 0 src
  unfolding distinct
  keeping_ends h = sym (append-nil (take r out)) ∙ ap (λ (l : List ℕ). take r out ++ distinct z l) (sym (drop_of_length-le src h)) ∙ w.kept
