-- The loop of steps over a window: where it begins, what each step asks and gives, and what is known once it has ended.
-- f is the record before the window, m how many of its records are looked at.
use Prim.Native.Nat.{ℕ, ◌+◌, ◌*◌, ◌^◌, ◌≤◌, ◌<◌, min}
use mathlib.Core.Path.{◌≡◌, ◌∙◌, subst}
use mathlib.Core.Bool.{true, false}
use mathlib.Core.List.{List}
use native.Mathlib.Omega.{arith}
use lib.ListN.{length}
use Rattle.loc_leaf.specs.declared.Kind.{Kind}
use Rattle.loc_leaf.specs.Bytes.{Bytes}
use Rattle.loc_leaf.specs.Rows.{row_list}
use Rattle.loc_window.specs.declared.Sums.{Sums}
use Rattle.std.specs.Prelude.{Option, Some, None}
use Rattle.loc_window.specs.Window.{window_areas, complete, Passed, RowsBefore, After, sums_of, Ready, SumsStored, SlotStepped, Summing, WindowSummed}
use Rattle.loc_window.proofs.SumLaws.{after_at}
use Rattle.loc_window.proofs.StepLaws.{slot_next, slot_lack}
use Rattle.loc_window.proofs.WindowLaws.{after_none, stored_none}

module _ (k : Kind) (long f m : ℕ) (bytes rows : Bytes) (past : ℕ) (mark : List ℕ) (stamp : ℕ) where
  pub summing_begins : (row : ℕ) (body span : List ℕ) → m ≤ 1024 → m < long → f + 1024 < 2 ^ 64 → RowsBefore k rows (f + 1024) past → Passed (row_list k rows) row f → 2 * m ≤ length bytes → length body ≡ long → length span ≡ long
      → Summing k long f m bytes rows past mark stamp 0 (sums_of 0 0 row 0) body span
  summing_begins row body span few room low rise p eb e₁ e₂ =
      record {
        bound = omega arith;
        body_long = e₁;
        span_long = e₂;
        ready = subst (λ (i : ℕ). Ready k f bytes rows past i m (sums_of 0 0 row 0) body span) none ready;
        stored = subst (λ (i : ℕ). SumsStored k f bytes rows mark stamp i body span) none (stored_none k f bytes rows mark stamp body span);
      }
    where
      none : 0 ≡ min (8 * 0) m
      none = omega arith

      ready : Ready k f bytes rows past 0 m (sums_of 0 0 row 0) body span
      ready =
          record {
            order = omega arith;
            few = few;
            copied = eb;
            body_room = omega arith;
            span_room = omega arith;
            numbers = low;
            rise = rise;
            after = after_none k f bytes rows row p;
          }

  module _ (block : ℕ) (s : Sums) (body span : List ℕ) (w : Summing k long f m bytes rows past mark stamp block s body span) where
    pub summing_asks : length mark ≡ 128 → 8 * block < m
        → ((length mark ≡ 128) × (8 * block < m) × Ready k f bytes rows past (8 * block) m s body span) × SumsStored k f bytes rows mark stamp (8 * block) body span
    summing_asks long h = (
      (long, h, subst (λ (i : ℕ). Ready k f bytes rows past i m s body span) whole w.ready),
      subst (λ (i : ℕ). SumsStored k f bytes rows mark stamp i body span) whole w.stored,
    )
      where
        whole : min (8 * block) m ≡ 8 * block
        whole = omega arith

    -- blocks grow
    pub summing_more : (r : Option Sums) (t : Sums) (body' span' : List ℕ) → SlotStepped k f bytes rows mark stamp block m body' span' r → r ≡ Some t → (block < t.block) × (8 * t.block < m + 8)
    summing_more r t body' span' v e = let n = slot_next k f bytes rows mark stamp block m body' span' r v t e in (n.0, n.1)

    pub summing_next : (r : Option Sums) (t : Sums) (body' span' : List ℕ) → SlotStepped k f bytes rows mark stamp block m body' span' r → r ≡ Some t
        → length body' ≡ length body → length span' ≡ length span
        → Summing k long f m bytes rows past mark stamp t.block (sums_of t.strides t.spans t.row t.block) body' span'
    summing_next r t body' span' v e e₁ e₂ =
        record {
          bound = more.1;
          body_long = e₁ ∙ w.body_long;
          span_long = e₂ ∙ w.span_long;
          ready =
              record {
                order = omega arith;
                few = w.ready.few;
                copied = w.ready.copied;
                body_room = omega (arith, w.ready.body_room);
                span_room = omega (arith, w.ready.span_room);
                numbers = w.ready.numbers;
                rise = w.ready.rise;
                after = after_at k f bytes rows _ _ t more.2;
              };
          stored = more.3;
        }
      where
        more : (block < t.block) × (8 * t.block < m + 8) × After k f bytes rows (min (8 * t.block) m) t × SumsStored k f bytes rows mark stamp (min (8 * t.block) m) body' span'
        more = slot_next k f bytes rows mark stamp block m body' span' r v t e

    -- the loop has ended
    module _ (h : m ≤ 8 * block) where
      all : min (8 * block) m ≡ m
      all = omega arith

      pub summed_known : complete k (window_areas f bytes rows) f m ≡ true
      summed_known = subst (λ (i : ℕ). complete k (window_areas f bytes rows) f i ≡ true) all w.ready.after.known

      pub summed_stored : SumsStored k f bytes rows mark stamp m body span
      summed_stored = subst (λ (i : ℕ). SumsStored k f bytes rows mark stamp i body span) all w.stored

      pub summed_all : WindowSummed k f bytes rows mark stamp m body span (Some s)
      unfolding WindowSummed
      summed_all = (subst (λ (i : ℕ). After k f bytes rows i s) all w.ready.after, summed_stored)

-- ---- by what is returned

-- a step finds that a record lacks its row
pub summed_lack : (k : Kind) (f m : ℕ) (bytes rows : Bytes) (mark : List ℕ) (stamp block : ℕ) (body span : List ℕ) (r : Option Sums) → SlotStepped k f bytes rows mark stamp block m body span r → r ≡ None
    → WindowSummed k f bytes rows mark stamp m body span None
unfolding WindowSummed
summed_lack k f m bytes rows mark stamp block body span r v e = slot_lack k f bytes rows mark stamp block m body span r v e

module _ (k : Kind) (f m : ℕ) (bytes rows : Bytes) (mark : List ℕ) (stamp : ℕ) (body span : List ℕ) (r : Option Sums) (v : WindowSummed k f bytes rows mark stamp m body span r) where
  pub window_next : (s : Sums) → r ≡ Some s → After k f bytes rows m s × SumsStored k f bytes rows mark stamp m body span
  unfolding WindowSummed
  window_next s e = subst (WindowSummed k f bytes rows mark stamp m body span) e v

  pub window_lack : r ≡ None → complete k (window_areas f bytes rows) f m ≡ false
  unfolding WindowSummed
  window_lack e = subst (WindowSummed k f bytes rows mark stamp m body span) e v
