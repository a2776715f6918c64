-- The stores of a truncation and of an opening, place by place, in the form in which the code meets them.
-- Places are decided before anything is stored, so a run over them is a step at a time.
use Prim.Native.Nat.{ℕ, zero, suc, ◌-◌, ◌≤◌, ◌<◌}
use mathlib.Core.Path.{◌≡◌, refl, sym, ◌∙◌}
use mathlib.Core.Bool.{Bool, true, false, cond}
use mathlib.Core.List.{List, [], ◌∷◌}
use native.Mathlib.Omega.{arith}
use lib.Dec.{ltb, eqb}
use borrow.Author.Tests.{lt-ltb, le-ltb}
use Rattle.loc_leaf.specs.Bytes.{Bytes}
use Rattle.loc_leaf.specs.Area.{store_length}
use Rattle.loc_calls.specs.declared.AreasMut.{AreasMut}
use Rattle.loc_calls.specs.Areas.{Areas, areas}
use Rattle.loc_calls.specs.Lent.{held, SameLenders}
use Rattle.loc_calls.specs.Stores.{Place, keep, slot_length, row_length, checkpoint_length, step, run, differing}
use Rattle.loc_store.specs.declared.Lengths.{Lengths}
use Rattle.loc_store.specs.declared.Rules.{Rules}
use Rattle.loc_store.specs.Plans.{fitted, length_places, rules_places}

-- ---- one length

-- a place that stores a length that differs, in whichever area
pub step_differing : (place : ℕ → Place) (inside : Bytes → Areas) (xs : Bytes) → ((v : ℕ) → step (place v) (inside xs) ≡ inside (store_length v xs))
    → (old new : ℕ) → step (differing place old new) (inside xs) ≡ inside (fitted old new xs)
unfolding step differing fitted
step_differing place inside xs h old new = go (eqb new old)
  where
    go : (b : Bool) → step (cond b keep (place new)) (inside xs) ≡ inside (cond b xs (store_length new xs))
    go true = refl
    go false = h new

module _ (s r c : Bytes) (old new : ℕ) where
  pub step_slots : step (differing slot_length old new) (areas s r c) ≡ areas (fitted old new s) r c
  unfolding step
  step_slots = step_differing slot_length (λ x. areas x r c) s (λ v. refl) old new

  pub step_rows : step (differing row_length old new) (areas s r c) ≡ areas s (fitted old new r) c
  unfolding step
  step_rows = step_differing row_length (λ x. areas s x c) r (λ v. refl) old new

  pub step_checkpoints : step (differing checkpoint_length old new) (areas s r c) ≡ areas s r (fitted old new c)
  unfolding step
  step_checkpoints = step_differing checkpoint_length (λ x. areas s r x) c (λ v. refl) old new

-- ---- runs

pub run_three : (old t : Lengths) (s r c : Bytes)
    → run 3 (length_places old t) (areas s r c) ≡ areas (fitted old.slots t.slots s) (fitted old.rows t.rows r) (fitted old.checkpoints t.checkpoints c)
unfolding run length_places
run_three old t s r c =
    rw (step_checkpoints s r c old.checkpoints t.checkpoints, step_rows s r (fitted old.checkpoints t.checkpoints c) old.rows t.rows)
    (step_slots s (fitted old.rows t.rows r) (fitted old.checkpoints t.checkpoints c) old.slots t.slots)

-- what one place leaves of its area, where it is among the first p
abbrev pub placed : ℕ → ℕ → ℕ → ℕ → Bytes → Bytes
placed i p old v xs = cond (ltb i p) (fitted old v xs) xs

module _ (i p old v : ℕ) (xs : Bytes) where
  pub placed_in : i < p → fitted old v xs ≡ placed i p old v xs
  placed_in h = rw (lt-ltb i p h) refl

  pub placed_out : p ≤ i → xs ≡ placed i p old v xs
  placed_out h = rw (le-ltb i p h) refl

-- the areas b are a after the stores of one place, and of two, where these are among the first p
abbrev pub OnePlaced : Lengths → Lengths → ℕ → AreasMut → AreasMut → Type 0
OnePlaced old t p a b =
    (held b ≡ areas a.slots.now a.rows.now (placed 0 p old.checkpoints t.checkpoints a.checkpoints.now)) × SameLenders a b

abbrev pub TwoPlaced : Lengths → Lengths → ℕ → AreasMut → AreasMut → Type 0
TwoPlaced old t p a b =
    (held b ≡ areas a.slots.now (placed 1 p old.rows t.rows a.rows.now) (placed 0 p old.checkpoints t.checkpoints a.checkpoints.now))
    × SameLenders a b

-- a truncation's first places, a store each
pub run_lengths : (old t : Lengths) (p : ℕ) (s r c : Bytes)
    → areas (placed 2 p old.slots t.slots s) (placed 1 p old.rows t.rows r) (placed 0 p old.checkpoints t.checkpoints c) ≡ run p (length_places old t) (areas s r c)
unfolding run length_places
run_lengths old t zero s r c = refl
run_lengths old t (suc zero) s r c = sym (step_checkpoints s r c old.checkpoints t.checkpoints)
run_lengths old t (suc (suc zero)) s r c =
    rw (step_checkpoints s r c old.checkpoints t.checkpoints, step_rows s r (fitted old.checkpoints t.checkpoints c) old.rows t.rows) refl
run_lengths old t (suc (suc (suc p))) s r c =
    rw (
      lt-ltb 2 (suc (suc (suc p))) (omega arith),
      lt-ltb 1 (suc (suc (suc p))) (omega arith),
      lt-ltb 0 (suc (suc (suc p))) (omega arith),
      run_none p,
    ) (sym (run_three old t s r c))
  where
    run_none : (n : ℕ) → (a : Areas) → run n [] a ≡ a
    run_none zero a = refl
    run_none (suc n) a = refl

-- ---- the places of an opening

run_both : (s : ℕ) (p q r : Place) (ps : List Place) (a : Areas) → run s (p ∷ q ∷ r ∷ ps) a ≡ run (s - 3) ps (run s (p ∷ q ∷ r ∷ []) a)
unfolding run
run_both zero p q r ps a = refl
run_both (suc zero) p q r ps a = refl
run_both (suc (suc zero)) p q r ps a = refl
run_both (suc (suc (suc zero))) p q r ps a = refl
run_both (suc (suc (suc (suc n)))) p q r ps a = let z : suc (suc (suc (suc n))) - 3 ≡ suc n = omega arith in rw z refl

pub rules_run : (old : Lengths) (p : Rules) (s : ℕ) (a b d : Areas) → b ≡ run s (length_places old p.checkpoint) a → d ≡ run (s - 3) (length_places p.checkpoint p.cut) b
    → d ≡ run s (rules_places old p) a
unfolding rules_places length_places
rules_run old p s a b d e q = q ∙ rw e (sym (run_both s _ _ _ (length_places p.checkpoint p.cut) a))
