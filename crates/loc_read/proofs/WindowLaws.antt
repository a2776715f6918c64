-- One window of the walk: where its slot loop begins, and what its sums say of the wanted numbers that lie in it.
-- f is the record before the window, m how many of its records are looked at.
use Prim.Native.Nat.{ℕ, suc, ◌+◌, ◌-◌, ◌*◌, ◌^◌, ◌≤◌, ◌<◌}
use mathlib.Core.Path.{◌≡◌, refl, sym, ap, ◌∙◌, subst⁻¹}
use mathlib.Core.Logic.{◌⊎◌, inl, inr}
use mathlib.Core.Bool.{Bool, true, false, not, ◌&&◌, false≢true}
use mathlib.Core.List.{List}
use native.Mathlib.Nat.{le_refl}
use native.Mathlib.Numerals.{add-one}
use native.Mathlib.Omega.{arith}
use lib.ListN.{length, get_or}
use Rattle.std.specs.Prelude.{Option, Some, None}
use Rattle.std.specs.Option.{is_some}
use Rattle.loc_leaf.specs.declared.Kind.{Kind}
use Rattle.loc_leaf.specs.declared.Kind.TheVariants.{Paired, Single}
use Rattle.loc_leaf.specs.declared.Value.{Value}
use Rattle.loc_leaf.specs.Bytes.{Bytes}
use Rattle.loc_leaf.specs.Kind.{window_of, within_window}
use Rattle.loc_leaf.specs.Rows.{row_list}
use Rattle.loc_leaf.proofs.Booleans.{is?}
use Rattle.loc_calls.specs.Areas.{Areas}
use Rattle.loc_calls.specs.Reading.{sum_after, lookup_at, has, value_at, strides_after, spans_after, before, window_end, looked_at, within, row_missing, words, words_for}
use Rattle.loc_order.specs.Order.{All}
use Rattle.loc_order.specs.Keys.{wanted_by, KeyOf}
use Rattle.loc_order.proofs.OrderLaws.{all_at}
use Rattle.loc_answer.specs.Words.{Summed, sum_words}
use Rattle.loc_window.specs.declared.PlannedWindow.{PlannedWindow}
use Rattle.loc_window.specs.declared.Sums.{Sums}
use Rattle.loc_window.specs.Window.{window_areas, complete, Rising, sums_of, Right, Summing, WindowSummed, Copied}
use Rattle.loc_window.specs.Planned.{planned}
use Rattle.loc_window.proofs.SumLaws.{all_more}
use Rattle.loc_window.proofs.PlannedLaws.{planned_before, planned_passed}
use Rattle.loc_window.proofs.WindowLaws.{complete_same, right_strides, right_spans}
use Rattle.loc_window.proofs.SummingLaws.{summing_begins}
use Rattle.loc_runs.specs.Runs.{IsRun}
use Rattle.loc_read.specs.Walk.{Readable, InArrays}
use Rattle.loc_runs.proofs.RunLaws.{looked_own, key_some, key_counted}

-- ---- where the slot loop begins

-- in reading's arrays, with the window's rows as they are planned
pub summing_planned : (k : Kind) (f m : ℕ) (bytes rows : Bytes) (nr : ℕ) (mark : List ℕ) (stamp : ℕ) (body span : List ℕ) (window : PlannedWindow) → window ≡ planned (row_list k rows) f m
    → window.m ≤ 1024 → window.base + 1024 < 2 ^ 64 → Rising k rows nr → length bytes ≡ 2048 → length body ≡ 1025 → length span ≡ 1025
    → Summing k 1025 window.base window.m bytes rows window.past mark stamp 0 (sums_of 0 0 window.first 0) body span
summing_planned k f m bytes rows nr mark stamp body span window e few low rise eb e₁ e₂ =
    subst⁻¹ (λ (v : PlannedWindow). v.m ≤ 1024 → v.base + 1024 < 2 ^ 64 → Summing k 1025 v.base v.m bytes rows v.past mark stamp 0 (sums_of 0 0 v.first 0) body span) e
    (λ g l. summing_begins k 1025 f m bytes rows _ mark stamp _ body span g (omega arith) l (planned_before k rows nr rise (f + 1024)) (planned_passed k rows nr rise f) (omega arith) e₁ e₂) few low

-- what the window's sums ask
pub summing_asked : (k : Kind) (f m : ℕ) (bytes rows : Bytes) (nr : ℕ) (mark : List ℕ) (stamp : ℕ) (body span : List ℕ) (window : PlannedWindow) → window ≡ planned (row_list k rows) f m
    → window.m ≤ 1024 → window.base + 1024 < 2 ^ 64 → Rising k rows nr → length mark ≡ 128 → length bytes ≡ 2048 → length body ≡ 1025 → length span ≡ 1025
    → (length mark ≡ 128) × Summing k (length body) window.base window.m bytes rows window.past mark stamp 0 (sums_of 0 0 window.first 0) body span
summing_asked k f m bytes rows nr mark stamp body span window e few low rise el eb e₁ e₂ = (
  el,
  subst⁻¹ (λ (i : ℕ). Summing k i window.base window.m bytes rows window.past mark stamp 0 (sums_of 0 0 window.first 0) body span) e₁
      (summing_planned k f m bytes rows nr mark stamp body span window e few low rise eb e₁ e₂),
)

-- the sums are stored in these arrays, or a record lacks its row
module _ (k : Kind) (f m : ℕ) (bytes rows : Bytes) (mark : List ℕ) (stamp : ℕ) (body span : List ℕ) where
  pub arrays_summed : (r : Option Sums) → WindowSummed k f bytes rows mark stamp m body span r → is_some r ≡ true → length body ≡ 1025 → length span ≡ 1025 → InArrays k f m bytes rows mark stamp body span
  unfolding WindowSummed
  arrays_summed (Some s) v e e₁ e₂ = record { known = v.0.known; stored = v.1; body_long = e₁; span_long = e₂ }
  arrays_summed None v e e₁ e₂ = absurd (false≢true e)

  pub window_lacking : (r : Option Sums) → WindowSummed k f bytes rows mark stamp m body span r → is_some r ≡ false → complete k (window_areas f bytes rows) f m ≡ false
  unfolding WindowSummed
  window_lacking (Some s) v e = absurd (false≢true (sym e))
  window_lacking None v e = v

-- ---- complete

-- what holds of m records holds of fewer
complete_less : (k : Kind) (a : Areas) (f n m : ℕ) → n ≤ m → complete k a f m ≡ true → complete k a f n ≡ true
complete_less k a f n m l e = go (is? (complete k a f n))
  where
    go : (complete k a f n ≡ true) ⊎ (complete k a f n ≡ false) → complete k a f n ≡ true
    go (inl t) = t
    go (inr t) = absurd (false≢true (sym (all_more (λ i. has (lookup_at k a i)) f n m t l) ∙ e))

-- ---- words of the window's records

words_are : (k : Kind) (b b' s s' : ℕ) (v v' : Value) → b ≡ b' → (k ≡ Paired → s ≡ s') → v ≡ v' → words k b s v ≡ words k b' s' v'
unfolding words
words_are Paired b b' s s' v v' eb es ev = rw (eb, es refl, ev) refl
words_are Single b b' s s' v v' eb es ev = rw (eb, ev) refl

value_is : (v : Value) (x y : ℕ) → x ≡ v.strides → y ≡ v.spans → record { strides = x; spans = y } ≡ v
value_is v x y e q = rw (e, q) refl

-- one record more
sum_more : (g : ℕ → ℕ) (f j : ℕ) → sum_after g f (j + 1) ≡ sum_after g f j + g (f + suc j)
unfolding sum_after
sum_more g f j = rw (add-one j) refl

module _ (k : Kind) (a : Areas) (f j : ℕ) where
  strides_more : strides_after k a f (j + 1) ≡ strides_after k a f j + (value_at k a (f + suc j)).strides
  unfolding strides_after
  strides_more = sum_more (λ i. (value_at k a i).strides) f j

  spans_more : spans_after k a f (j + 1) ≡ spans_after k a f j + (value_at k a (f + suc j)).spans
  unfolding spans_after
  spans_more = sum_more (λ i. (value_at k a i).spans) f j

-- ---- a window whose slot loop has ended

module _ (k : Kind) (a : Areas) (n nr : ℕ) (ids keys : List ℕ) (i end f m stamp : ℕ) (mark : List ℕ) (bytes old : Bytes) (body span : List ℕ)
    (rd : Readable k a n nr) (ks : All (KeyOf n ids) keys) (run : IsRun k n ids keys i end m stamp mark) (first : f ≡ before (wanted_by ids keys i))
    (copied : Copied a.slots (16 + 2 * f) (2 * m) old bytes) where
  here : (t : ℕ) → t < end → t < length keys
  here t h = omega (arith, run.inside)

  own_window : (t : ℕ) → i ≤ t → t < end → before (wanted_by ids keys t) ≡ f
  own_window t h g = ap (λ (w : ℕ). 1024 * w) (run.window t h g) ∙ sym first

  -- a slot that is looked at lacks its row
  pub window_lacks : complete k (window_areas f bytes a.rows) f m ≡ false → row_missing k a (wanted_by ids keys run.most) ≡ true
  unfolding row_missing
  window_lacks e =
      rw (← rd.counted, (all_at (KeyOf n ids) keys ks run.most (here run.most run.most_end)).inside, run.is_most, own_window run.most run.most_from run.most_end, sym (complete_same k a f m bytes old copied m (le_refl m)) ∙ e) refl

  module _ (w : InArrays k f m bytes a.rows mark stamp body span) (t : ℕ) (h : i ≤ t) (g : t < end) where
    abbrev id : ℕ
    id = wanted_by ids keys t

    abbrev j : ℕ
    j = within_window id

    some : 0 < id
    some = key_some n ids keys ks t (here t g) id refl

    inside : j < m
    inside = omega (arith, looked_own k n id some (key_counted n ids keys ks t (here t g) id refl), run.looked t h g)

    -- no row is missing
    pub window_complete : row_missing k a (wanted_by ids keys t) ≡ false
    unfolding row_missing
    window_complete =
        rw (← rd.counted, own_window t h g, complete_less k a f (looked_at k n id) m (run.looked t h g) (sym (complete_same k a f m bytes old copied m (le_refl m)) ∙ w.known)) (off (within n id))
      where
        off : (b : Bool) → (b && not true) ≡ false
        off true = refl
        off false = refl

    low : Right k f bytes a.rows j body span
    low = w.stored.here j inside (run.marked t h g)

    high : Right k f bytes a.rows (j + 1) body span
    high = w.stored.next j inside (run.marked t h g)

    body_here : get_or body j 0 ≡ strides_after k a f j
    body_here = right_strides k a f m bytes old copied j body span (omega (arith, inside)) low

    body_next : get_or body (j + 1) 0 ≡ strides_after k a f (j + 1)
    body_next = right_strides k a f m bytes old copied (j + 1) body span (omega (arith, inside)) high

    span_here : get_or span j 0 ≡ spans_after k a f j
    span_here = right_spans k a f m bytes old copied j body span (omega (arith, inside)) low

    span_next : get_or span (j + 1) 0 ≡ spans_after k a f (j + 1)
    span_next = right_spans k a f m bytes old copied (j + 1) body span (omega (arith, inside)) high

    few : j < 1024
    few = omega arith

    pub window_summed : Summed body span j
    window_summed =
        record {
          in_body = omega (arith, few, w.body_long);
          in_span = omega (arith, few, w.span_long);
          body_rises = omega (arith, body_here, body_next, strides_more k a f j);
          span_rises = omega (arith, span_here, span_next, spans_more k a f j);
          body_low = omega (arith, few, high.body_low);
          span_low = omega (arith, few, high.span_low);
        }

    itself : f + suc j ≡ id
    itself = omega (arith, own_window t h g, some)

    value : record { strides = get_or body (j + 1) 0 - get_or body j 0; spans = get_or span (j + 1) 0 - get_or span j 0 } ≡ value_at k a id
    value = value_is (value_at k a id) (get_or body (j + 1) 0 - get_or body j 0) (get_or span (j + 1) 0 - get_or span j 0)
        (omega (arith, body_here, body_next, strides_more k a f j, ap (λ (x : ℕ). (value_at k a x).strides) itself))
        (omega (arith, span_here, span_next, spans_more k a f j, ap (λ (x : ℕ). (value_at k a x).spans) itself))

    pub window_words : (b s : ℕ) → b ≡ window_end k a 0 (window_of (wanted_by ids keys i)) → (k ≡ Paired → s ≡ window_end k a 8 (window_of (wanted_by ids keys i)))
        → words_for k a id ≡ sum_words k b s body span j
    unfolding words_for sum_words
    window_words b s eb es =
        rw (← rd.counted, (all_at (KeyOf n ids) keys ks t (here t g)).inside)
        (words_are k _ _ _ _ _ _ (rw (run.window t h g, ← first, eb, body_here) refl)
        (λ p. rw (run.window t h g, ← first, es p, span_here) refl) (sym value))
