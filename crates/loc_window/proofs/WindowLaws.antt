-- For callers: where a walk over a window begins, and what its sums and its missing rows are in the areas themselves.
-- The copy holds the slots of the m records that follow record f.
use Rattle.loc_leaf.specs.declared.Value.{Value}
use Rattle.std.specs.Prelude.{Option}
use Prim.Native.Nat.{ℕ, zero, suc, ◌+◌, ◌-◌, ◌*◌, ◌≤◌, ◌<◌}
use mathlib.Core.Path.{◌≡◌, refl, sym, ap, ◌∙◌}
use mathlib.Core.Bool.{Bool, ◌&&◌}
use mathlib.Core.List.{List}
use native.Mathlib.Nat.{add-zero, not-suc-le-zero}
use native.Mathlib.Omega.{arith}
use lib.ListN.{get_or, take, drop}
use lib.Seq.{get_or-take, get_or-drop}
use Rattle.loc_leaf.specs.declared.Kind.{Kind}
use Rattle.loc_leaf.specs.Bytes.{Bytes, byte}
use Rattle.loc_leaf.specs.Slot.{slot_at}
use Rattle.loc_leaf.specs.Rows.{row_list, value_in}
use Rattle.loc_calls.specs.Areas.{Areas}
use Rattle.loc_calls.specs.Reading.{sum_after, all_after, lookup_at, has, value_at, strides_after, spans_after}
use Rattle.loc_window.specs.Window.{window_areas, complete, Passed, After, sums_of, Right, SumsStored, Copied}
use Rattle.loc_window.proofs.SumLaws.{slot_two, lookup_is}

-- ---- the begin

module _ (k : Kind) (f : ℕ) (bytes rows : Bytes) where
  -- no record yet, and some rows passed
  pub after_none : (row : ℕ) → Passed (row_list k rows) row f → After k f bytes rows 0 (sums_of 0 0 row 0)
  unfolding all_after strides_after spans_after sum_after
  after_none row p =
      record {
        known = refl;
        is_strides = refl;
        is_spans = refl;
        strides_low = omega arith;
        spans_low = omega arith;
        passed = λ i l. omega (arith, p i l);
      }

  pub stored_none : (mark : List ℕ) (stamp : ℕ) (body span : List ℕ) → SumsStored k f bytes rows mark stamp 0 body span
  stored_none mark stamp body span = record { here = λ j h. absurd (not-suc-le-zero h); next = λ j h. absurd (not-suc-le-zero h) }

-- ---- over the numbers that follow: equal where the functions are

all_same : (g h : ℕ → Bool) (f m : ℕ) → ((j : ℕ) → j < m → g (f + suc j) ≡ h (f + suc j)) → (n : ℕ) → n ≤ m → all_after g f n ≡ all_after h f n
unfolding all_after
all_same g h f m e zero l = refl
all_same g h f m e (suc n) l = (λ t. all_same g h f m e n (omega arith) t && e n l t)

sum_same : (g h : ℕ → ℕ) (f m : ℕ) → ((j : ℕ) → j < m → g (f + suc j) ≡ h (f + suc j)) → (n : ℕ) → n ≤ m → sum_after g f n ≡ sum_after h f n
unfolding sum_after
sum_same g h f m e zero l = refl
sum_same g h f m e (suc n) l = (λ t. sum_same g h f m e n (omega arith) t + e n l t)

-- ---- in the areas themselves

-- a part of the slots stands in for a copy of them
pub part_copied : (slots : Bytes) (at n d : ℕ) → n ≤ d → Copied slots at n (take d (drop at slots)) (take d (drop at slots))
part_copied slots at n d l = record { front = λ u h. get_or-take d (drop at slots) u 0 (omega arith) ∙ get_or-drop at slots u 0; rest = λ u h. refl }

module _ (k : Kind) (a : Areas) (f m : ℕ) (bytes old : Bytes) (w : Copied a.slots (16 + 2 * f) (2 * m) old bytes) where
  slot_byte : (j t : ℕ) → j < m → t < 2 → byte t (slot_at a.slots (f + suc j)) ≡ byte (2 * j + t) bytes
  unfolding slot_at
  slot_byte j t h g =
      let e : 16 + 2 * (f + suc j - 1) + t ≡ 16 + 2 * f + (2 * j + t) = omega arith in
      get_or-take 2 (drop (16 + 2 * (f + suc j - 1)) a.slots) t 0 g ∙ get_or-drop (16 + 2 * (f + suc j - 1)) a.slots t 0
      ∙ ap (λ (n : ℕ). byte n a.slots) e ∙ sym (w.front (2 * j + t) (omega arith))

  lookup_same : (j : ℕ) → j < m → lookup_at k (window_areas f bytes a.rows) (f + suc j) ≡ lookup_at k a (f + suc j)
  unfolding lookup_at
  lookup_same j h =
      lookup_is k f bytes a.rows j
      ∙ sym (slot_two k (row_list k a.rows) (f + suc j) (slot_at a.slots (f + suc j)) (byte (2 * j) bytes) (byte (2 * j + 1) bytes)
      (slot_byte j 0 h (omega arith) ∙ ap (λ (n : ℕ). byte n bytes) (add-zero (2 * j))) (slot_byte j 1 h (omega arith)))

  -- whether a row is missing
  pub complete_same : (n : ℕ) → n ≤ m → complete k (window_areas f bytes a.rows) f n ≡ complete k a f n
  complete_same n l =
      all_same (λ i. has (lookup_at k (window_areas f bytes a.rows) i)) (λ i. has (lookup_at k a i)) f m (λ j h. ap has (lookup_same j h)) n l

  -- the sums
  pub strides_same : (n : ℕ) → n ≤ m → strides_after k (window_areas f bytes a.rows) f n ≡ strides_after k a f n
  unfolding strides_after value_at
  strides_same n l =
      sum_same (λ i. (value_at k (window_areas f bytes a.rows) i).strides) (λ i. (value_at k a i).strides) f m (λ j h. ap (λ (v : Option Value). (value_in v).strides) (lookup_same j h)) n l

  pub spans_same : (n : ℕ) → n ≤ m → spans_after k (window_areas f bytes a.rows) f n ≡ spans_after k a f n
  unfolding spans_after value_at
  spans_same n l =
      sum_same (λ i. (value_at k (window_areas f bytes a.rows) i).spans) (λ i. (value_at k a i).spans) f m (λ j h. ap (λ (v : Option Value). (value_in v).spans) (lookup_same j h)) n l

  pub right_strides : (j : ℕ) (body span : List ℕ) → j ≤ m → Right k f bytes a.rows j body span → get_or body j 0 ≡ strides_after k a f j
  right_strides j body span l r = r.body_is ∙ strides_same j l

  pub right_spans : (j : ℕ) (body span : List ℕ) → j ≤ m → Right k f bytes a.rows j body span → get_or span j 0 ≡ spans_after k a f j
  right_spans j body span l r = r.span_is ∙ spans_same j l
