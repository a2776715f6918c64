-- The sums of a window, one record more at a time.
-- A record's value is what the copy's two bytes and the rows say.
use Rattle.std.specs.Prelude.{Some, None}
use Prim.Native.Nat.{ℕ, zero, suc, ◌+◌, ◌-◌, ◌*◌, ◌^◌, ◌≤◌, ◌<◌}
use mathlib.Core.Path.{◌≡◌, refl, sym, ap, ◌∙◌, subst}
use mathlib.Core.Logic.{⊎_elim}
use mathlib.Core.Bool.{Bool, true, false, cond, ◌&&◌, and-false}
use mathlib.Core.List.{List, [], ◌∷◌, ◌++◌}
use native.Mathlib.Nat.{add-zero, eq-or-lt_of_le}
use native.Mathlib.Numerals.{add-one}
use native.Mathlib.Omega.{arith}
use lib.ListN.{length, get_or, drop, set, replicate, length-set, length-replicate}
use lib.Seq.{get_or-take, get_or-drop, get_or-append-add, get_or-set_same, get_or-set_other}
use Rattle.loc_leaf.specs.declared.Kind.{Kind}
use Rattle.loc_leaf.specs.declared.Kind.TheVariants.{Paired, Single}
use Rattle.loc_leaf.specs.declared.Value.{Value}
use Rattle.loc_leaf.specs.Bytes.{Bytes, byte}
use Rattle.loc_leaf.specs.Slot.{needs_row, inline, slot_at}
use Rattle.loc_leaf.specs.Rows.{row_list, row_value, lookup, slot_value, value_in}
use Rattle.loc_calls.specs.Reading.{sum_after, all_after, lookup_at, has, value_at, strides_after, spans_after}
use Rattle.loc_window.specs.declared.Sums.{Sums}
use Rattle.loc_window.specs.Window.{window_areas, complete, Passed, After, sums_of, plus_value, IsRow, slot_bytes, Right, Written}

-- ---- over the numbers that follow

module _ (g : ℕ → Bool) (f : ℕ) where
  all_next : (n : ℕ) (b : Bool) → g (f + suc n) ≡ b → all_after g f (n + 1) ≡ (all_after g f n && b)
  unfolding all_after
  all_next n b e = ap (all_after g f) (add-one n) ∙ ap (λ (c : Bool). all_after g f n && c) e

  all_add : (n d : ℕ) → all_after g f n ≡ false → all_after g f (n + d) ≡ false
  unfolding all_after
  all_add n zero e = ap (all_after g f) (add-zero n) ∙ e
  all_add n (suc d) e = let q : n + suc d ≡ suc (n + d) = omega arith in ap (all_after g f) q ∙ ap (λ (c : Bool). c && g (f + suc (n + d))) (all_add n d e)

  pub all_more : (n m : ℕ) → all_after g f n ≡ false → n ≤ m → all_after g f m ≡ false
  all_more n m e h = let q : n + (m - n) ≡ m = omega arith in subst (λ (i : ℕ). all_after g f i ≡ false) q (all_add n (m - n) e)

-- ---- a record of the copy

pub slot_two : (k : Kind) (rs : List Bytes) (id : ℕ) (s : Bytes) (x y : ℕ) → byte 0 s ≡ x → byte 1 s ≡ y → slot_value k rs id s ≡ slot_value k rs id (x ∷ y ∷ [])
unfolding slot_value needs_row inline
slot_two Paired rs id s x y p q = rw (p, q) refl
slot_two Single rs id s x y p q = rw (p, q) refl

module _ (k : Kind) (f : ℕ) (bytes rows : Bytes) where
  placed_byte : (u : ℕ) → byte (16 + 2 * f + u) (replicate (16 + 2 * f) 0 ++ bytes) ≡ byte u bytes
  placed_byte u =
      ap (λ (n : ℕ). byte (n + u) (replicate (16 + 2 * f) 0 ++ bytes)) (sym (length-replicate (16 + 2 * f) 0))
      ∙ get_or-append-add (replicate (16 + 2 * f) 0) bytes u 0

  slot_byte : (j t : ℕ) → t < 2 → byte t (slot_at (replicate (16 + 2 * f) 0 ++ bytes) (f + suc j)) ≡ byte (2 * j + t) bytes
  unfolding slot_at
  slot_byte j t h =
      let e : 16 + 2 * (f + suc j - 1) + t ≡ 16 + 2 * f + (2 * j + t) = omega arith in
      get_or-take 2 (drop (16 + 2 * (f + suc j - 1)) (replicate (16 + 2 * f) 0 ++ bytes)) t 0 h
      ∙ get_or-drop (16 + 2 * (f + suc j - 1)) (replicate (16 + 2 * f) 0 ++ bytes) t 0
      ∙ ap (λ (n : ℕ). byte n (replicate (16 + 2 * f) 0 ++ bytes)) e ∙ placed_byte (2 * j + t)

  pub lookup_is : (j : ℕ) → lookup_at k (window_areas f bytes rows) (f + suc j) ≡ slot_value k (row_list k rows) (f + suc j) (slot_bytes bytes j)
  unfolding lookup_at window_areas
  lookup_is j =
      slot_two k (row_list k rows) (f + suc j) (slot_at (replicate (16 + 2 * f) 0 ++ bytes) (f + suc j)) (byte (2 * j) bytes) (byte (2 * j + 1) bytes)
      (slot_byte j 0 (omega arith) ∙ ap (λ (n : ℕ). byte n bytes) (add-zero (2 * j))) (slot_byte j 1 (omega arith))

  lookup_inline : (j : ℕ) → needs_row k (slot_bytes bytes j) ≡ false → lookup_at k (window_areas f bytes rows) (f + suc j) ≡ Some (inline k (slot_bytes bytes j))
  unfolding slot_value
  lookup_inline j e = lookup_is j ∙ ap (λ (b : Bool). cond b (lookup k (f + suc j) (row_list k rows)) (Some (inline k (slot_bytes bytes j)))) e

  lookup_row : (j : ℕ) → needs_row k (slot_bytes bytes j) ≡ true → lookup_at k (window_areas f bytes rows) (f + suc j) ≡ lookup k (f + suc j) (row_list k rows)
  unfolding slot_value
  lookup_row j e = lookup_is j ∙ ap (λ (b : Bool). cond b (lookup k (f + suc j) (row_list k rows)) (Some (inline k (slot_bytes bytes j)))) e

  -- ---- one record more

  pub passed_more : (p id id' : ℕ) → id ≤ id' → Passed (row_list k rows) p id → Passed (row_list k rows) p id'
  passed_more p id id' h w i l = omega (arith, w i l)

  after_next : (n : ℕ) (s : Sums) (v : Value) (row : ℕ) → After k f bytes rows n s → lookup_at k (window_areas f bytes rows) (f + suc n) ≡ Some v
      → v.strides < 2 ^ 32 → v.spans < 2 ^ 32 → Passed (row_list k rows) row (f + (n + 1)) → After k f bytes rows (n + 1) (plus_value s v row)
  unfolding strides_after spans_after sum_after value_at value_in has
  after_next n s v row w e hs hp p =
      record {
        known = all_next (λ i. has (lookup_at k (window_areas f bytes rows) i)) f n true (ap has e) ∙ ap (λ (b : Bool). b && true) w.known;
        is_strides = rw (add-one n, ← w.is_strides, e) refl;
        is_spans = rw (add-one n, ← w.is_spans, e) refl;
        strides_low = omega (arith, w.strides_low);
        spans_low = omega (arith, w.spans_low);
        passed = p;
      }

  lack_next : (n : ℕ) → lookup_at k (window_areas f bytes rows) (f + suc n) ≡ None → complete k (window_areas f bytes rows) f (n + 1) ≡ false
  unfolding has
  lack_next n e = all_next (λ i. has (lookup_at k (window_areas f bytes rows) i)) f n false (ap has e) ∙ and-false (complete k (window_areas f bytes rows) f n)

  -- the same sums, counted as other blocks
  pub after_at : (n block : ℕ) (s : Sums) → After k f bytes rows n s → After k f bytes rows n (sums_of s.strides s.spans s.row block)
  after_at n block s w =
      record {
        known = w.known;
        is_strides = w.is_strides;
        is_spans = w.is_spans;
        strides_low = w.strides_low;
        spans_low = w.spans_low;
        passed = w.passed;
      }

  -- a record that needs no row
  pub step_inline : (n : ℕ) (s t : Sums) (v : Value) (plain : needs_row k (slot_bytes bytes n) ≡ false) → After k f bytes rows n s → v ≡ inline k (slot_bytes bytes n)
      → t ≡ plus_value s v s.row → v.strides < 2 ^ 32 → v.spans < 2 ^ 32 → After k f bytes rows (n + 1) t
  step_inline n s t v plain w ev et hs hp =
      rw et
      (after_next n s v s.row w (lookup_inline n plain ∙ ap (λ (u : Value). Some u) (sym ev)) hs hp
      (passed_more s.row (f + n) (f + (n + 1)) (omega arith) w.passed))

  -- a record by its row, which is row r
  module _ (n id : ℕ) (needs : needs_row k (slot_bytes bytes n) ≡ true) (e : id ≡ f + suc n) where
    by_row : lookup_at k (window_areas f bytes rows) (f + suc n) ≡ lookup k id (row_list k rows)
    by_row = lookup_row n needs ∙ ap (λ (i : ℕ). lookup k i (row_list k rows)) (sym e)

    pub step_row : (r : ℕ) (s : Sums) (v : Value) → After k f bytes rows n s → IsRow k rows id r → v ≡ row_value k (get_or (row_list k rows) r []) → v.strides < 2 ^ 32 → v.spans < 2 ^ 32
        → After k f bytes rows (n + 1) (plus_value s v (r + 1))
    step_row r s v w g ev hs hp =
        let q : id ≤ f + (n + 1) = omega arith in
        after_next n s v (r + 1) w (by_row ∙ g.is_found ∙ ap (λ (u : Value). Some u) (sym ev)) hs hp (passed_more (r + 1) id (f + (n + 1)) q g.passed)

    pub lacks_row : lookup k id (row_list k rows) ≡ None → complete k (window_areas f bytes rows) f (n + 1) ≡ false
    lacks_row m = lack_next n (by_row ∙ m)

-- ---- sums that are stored

module _ (k : Kind) (f : ℕ) (bytes rows : Bytes) where
  -- the sums of n records where they were stored
  stored : (n : ℕ) (s : Sums) (body span : List ℕ) → After k f bytes rows n s → n < length body → n < length span
      → Right k f bytes rows n (set body n s.strides) (set span n s.spans)
  stored n s body span w hb hs =
      let eb : get_or (set body n s.strides) n 0 ≡ s.strides = get_or-set_same body n s.strides 0 hb in
      let es : get_or (set span n s.spans) n 0 ≡ s.spans = get_or-set_same span n s.spans 0 hs in
      record {
        body_is = eb ∙ w.is_strides;
        span_is = es ∙ w.is_spans;
        body_low = omega (arith, w.strides_low);
        span_low = omega (arith, w.spans_low);
      }

  -- those of j records where others were stored
  pub right_same : (j : ℕ) (body span body' span' : List ℕ) → get_or body' j 0 ≡ get_or body j 0 → get_or span' j 0 ≡ get_or span j 0
      → Right k f bytes rows j body span → Right k f bytes rows j body' span'
  right_same j body span body' span' p q w =
      record {
        body_is = p ∙ w.body_is;
        span_is = q ∙ w.span_is;
        body_low = omega (arith, w.body_low);
        span_low = omega (arith, w.span_low);
      }

  pub written_first : (n : ℕ) (s : Sums) (body span : List ℕ) → After k f bytes rows n s → n < length body → n < length span
      → Written k f bytes rows n n (set body n s.strides) (set span n s.spans) (set body n s.strides) (set span n s.spans)
  written_first n s body span w hb hs =
      record {
        body_long = refl;
        span_long = refl;
        body_kept = λ j h. refl;
        span_kept = λ j h. refl;
        right = λ j h g. let e : n ≡ j = omega arith in subst (λ (i : ℕ). Right k f bytes rows i (set body n s.strides) (set span n s.spans)) e (stored n s body span w hb hs);
      }

  pub written_next : (from n : ℕ) (s : Sums) (body₀ span₀ body span : List ℕ) → from ≤ n → Written k f bytes rows from n body₀ span₀ body span
      → After k f bytes rows (n + 1) s → n + 1 < length body₀ → n + 1 < length span₀
      → Written k f bytes rows from (n + 1) body₀ span₀ (set body (n + 1) s.strides) (set span (n + 1) s.spans)
  written_next from n s body₀ span₀ body span l w a hb hs =
      record {
        body_long = length-set body (n + 1) s.strides ∙ w.body_long;
        span_long = length-set span (n + 1) s.spans ∙ w.span_long;
        body_kept = λ j h. get_or-set_other body (n + 1) j s.strides 0 (λ e. omega arith) ∙ w.body_kept j h;
        span_kept = λ j h. get_or-set_other span (n + 1) j s.spans 0 (λ e. omega arith) ∙ w.span_kept j h;
        right = at;
      }
    where
      at : (j : ℕ) → from ≤ j → j ≤ n + 1 → Right k f bytes rows j (set body (n + 1) s.strides) (set span (n + 1) s.spans)
      at j h g =
          ⊎_elim
          (λ (e : j ≡ n + 1). subst (λ (i : ℕ). Right k f bytes rows i (set body (n + 1) s.strides) (set span (n + 1) s.spans)) (sym e) (stored (n + 1) s body span a (omega (arith, w.body_long)) (omega (arith, w.span_long))))
          (λ (m : j < n + 1).
          right_same j body span (set body (n + 1) s.strides) (set span (n + 1) s.spans)
          (get_or-set_other body (n + 1) j s.strides 0 (λ e. omega arith)) (get_or-set_other span (n + 1) j s.spans 0 (λ e. omega arith))
          (w.right j h (omega arith)))
          (eq-or-lt_of_le g)
