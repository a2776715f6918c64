-- The places of an append, in the form in which the code meets them.
-- What each area has become is known by the test before its store.
use Prim.Native.Nat.{ℕ, zero, suc, ◌≤◌, ◌<◌}
use mathlib.Core.Path.{◌≡◌, refl, sym, ap, ◌∙◌}
use mathlib.Core.Bool.{cond}
use mathlib.Core.List.{List, [], flatten}
use native.Mathlib.Omega.{arith}
use lib.Dec.{ltb}
use borrow.Author.Tests.{lt-ltb, le-ltb}
use Rattle.loc_leaf.specs.declared.Kind.{Kind}
use Rattle.loc_leaf.specs.Bytes.{Bytes}
use Rattle.loc_calls.specs.declared.AreasMut.{AreasMut}
use Rattle.loc_calls.specs.Areas.{Areas, each, areas}
use Rattle.loc_calls.specs.Lent.{held, SameLenders}
use Rattle.loc_calls.specs.Table.{Entry}
use Rattle.loc_calls.specs.Stores.{write, step, run, staged}
use Rattle.loc_store.specs.Plans.{fitted}
use Rattle.loc_store.proofs.StoreLaws.{placed, step_slots, step_rows, step_checkpoints}
use Rattle.loc_append.specs.Plans.{stage_places}
use Rattle.loc_append.specs.declared.Stage.{Stage}

-- the areas with the bytes past their ends
abbrev pub written : Kind → List Entry → Stage → Areas → Areas
written k es t a = step (write (each flatten (staged k t.base es))) a

-- the areas b are a after a store, where its place is among the first s
abbrev pub Wrote : Kind → List Entry → Stage → ℕ → AreasMut → AreasMut → Type 0
Wrote k es t s a b = (held b ≡ cond (ltb 0 s) (written k es t (held a)) (held a)) × SameLenders a b

abbrev pub SlotsPlaced : Stage → ℕ → AreasMut → AreasMut → Type 0
SlotsPlaced t s a b = (held b ≡ areas (placed 1 s t.old.slots t.new.slots a.slots.now) a.rows.now a.checkpoints.now) × SameLenders a b

abbrev pub RowsPlaced : Stage → ℕ → AreasMut → AreasMut → Type 0
RowsPlaced t s a b = (held b ≡ areas a.slots.now (placed 2 s t.old.rows t.new.rows a.rows.now) a.checkpoints.now) × SameLenders a b

module _ (k : Kind) (es : List Entry) (t : Stage) (s : ℕ) (a : Areas) where
  pub wrote_in : 0 < s → written k es t a ≡ cond (ltb 0 s) (written k es t a) a
  wrote_in h = rw (lt-ltb 0 s h) refl

  pub wrote_out : s ≤ 0 → a ≡ cond (ltb 0 s) (written k es t a) a
  wrote_out h = rw (le-ltb 0 s h) refl

-- all four
pub run_stage : (k : Kind) (es : List Entry) (t : Stage) (s : ℕ) (a b : Areas) → b ≡ cond (ltb 0 s) (written k es t a) a
    → areas (placed 1 s t.old.slots t.new.slots b.slots) (placed 2 s t.old.rows t.new.rows b.rows) (placed 3 s t.old.checkpoints t.new.checkpoints b.checkpoints)
    ≡ run s (stage_places k es t) a
unfolding run stage_places
run_stage k es t zero a b e = e
run_stage k es t (suc zero) a b e = e
run_stage k es t (suc (suc zero)) a b e = rw (← e) (sym (step_slots b.slots b.rows b.checkpoints t.old.slots t.new.slots))
run_stage k es t (suc (suc (suc zero))) a b e =
    rw (
      ← e,
      step_slots b.slots b.rows b.checkpoints t.old.slots t.new.slots,
      step_rows (fitted t.old.slots t.new.slots b.slots) b.rows b.checkpoints t.old.rows t.new.rows,
    ) refl
run_stage k es t (suc (suc (suc (suc n)))) a b e =
    rw (
      lt-ltb 1 (suc (suc (suc (suc n)))) (omega arith),
      lt-ltb 2 (suc (suc (suc (suc n)))) (omega arith),
      lt-ltb 3 (suc (suc (suc (suc n)))) (omega arith),
      run_none n,
      ← e',
      step_slots b.slots b.rows b.checkpoints t.old.slots t.new.slots,
      step_rows (fitted t.old.slots t.new.slots b.slots) b.rows b.checkpoints t.old.rows t.new.rows,
      step_checkpoints (fitted t.old.slots t.new.slots b.slots) (fitted t.old.rows t.new.rows b.rows) b.checkpoints t.old.checkpoints t.new.checkpoints,
    ) refl
  where
    e' : b ≡ written k es t a
    e' = rw (lt-ltb 0 (suc (suc (suc (suc n)))) (omega arith)) at e

    run_none : (m : ℕ) (x : Areas) → run m [] x ≡ x
    run_none zero x = refl
    run_none (suc m) x = refl

-- the areas that are left
module _ (k : Kind) (es : List Entry) (t : Stage) (s : ℕ) (a b c d : AreasMut) (w : Wrote k es t s a b) (p : SlotsPlaced t s b c) (q : RowsPlaced t s c d) where
  pub stores_ran : (x : Bytes) → x ≡ placed 3 s t.old.checkpoints t.new.checkpoints d.checkpoints.now
      → (areas d.slots.now d.rows.now x ≡ run s (stage_places k es t) (held a)) × SameLenders a d
  stores_ran x e = (
    whole ∙ run_stage k es t s (held a) (held b) w.0,
    (q.1.0 ∙ p.1.0 ∙ w.1.0, q.1.1 ∙ p.1.1 ∙ w.1.1, q.1.2 ∙ p.1.2 ∙ w.1.2),
  )
    where
      slots : d.slots.now ≡ placed 1 s t.old.slots t.new.slots b.slots.now
      slots = ap (λ (y : Areas). y.slots) q.0 ∙ ap (λ (y : Areas). y.slots) p.0

      rows : d.rows.now ≡ placed 2 s t.old.rows t.new.rows b.rows.now
      rows = ap (λ (y : Areas). y.rows) q.0 ∙ ap (λ (y : Areas). placed 2 s t.old.rows t.new.rows y.rows) p.0

      checkpoints : x ≡ placed 3 s t.old.checkpoints t.new.checkpoints b.checkpoints.now
      checkpoints = e ∙ ap (λ (y : Areas). placed 3 s t.old.checkpoints t.new.checkpoints y.checkpoints) q.0 ∙ ap (λ (y : Areas). placed 3 s t.old.checkpoints t.new.checkpoints y.checkpoints) p.0

      whole : areas d.slots.now d.rows.now x
          ≡ areas (placed 1 s t.old.slots t.new.slots b.slots.now) (placed 2 s t.old.rows t.new.rows b.rows.now) (placed 3 s t.old.checkpoints t.new.checkpoints b.checkpoints.now)
      whole = rw (slots, rows, checkpoints) refl
