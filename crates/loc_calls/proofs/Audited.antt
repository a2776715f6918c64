-- Areas that hold a good list whole audit to 1.
-- Each checkpoint is the sum that the audit makes anew, and each row is that of its record's slot.
use Prim.Native.Nat.{ℕ, suc, ◌+◌, ◌*◌, ◌/◌, ◌^◌, ◌≤◌, ◌<◌}
use mathlib.Core.Path.{◌≡◌, refl, sym, ap, ◌∙◌, subst}
use mathlib.Core.Logic.{◌⊎◌, inl, inr}
use mathlib.Core.Bool.{Bool, true, false, cond, false≢true}
use mathlib.Core.List.{List, [], ◌∷◌, ◌++◌, append_assoc}
use native.Mathlib.Nat.{zero-add}
use native.Mathlib.Omega.{arith}
use lib.Dec.{leb, ltb, eqb}
use lib.ListN.{length, take, length-append}
use lib.Seq.{take-length}
use borrow.Author.Tests.{le-leb, lt-ltb, eq-eqb, ne_eqb, ltb-false}
use Rattle.loc_leaf.specs.declared.Kind.{Kind}
use Rattle.loc_leaf.specs.declared.Kind.TheVariants.{Paired, Single}
use Rattle.loc_leaf.specs.declared.Value.{Value}
use Rattle.loc_leaf.specs.Bytes.{Bytes, byte}
use Rattle.loc_leaf.specs.Answers.{answer}
use Rattle.loc_leaf.specs.Slot.{below, slot, stored_as_zero, needs_row}
use Rattle.loc_leaf.specs.Rows.{row}
use Rattle.loc_leaf.specs.Cut.{matches}
use Rattle.loc_leaf.proofs.Booleans.{is?, both_left, both_right}
use Rattle.loc_leaf.proofs.ValueLaws.{SpansFit, Valid, row_number_lem, row_value_lem, needs_row_lem}
use Rattle.loc_calls.specs.Areas.{Areas}
use Rattle.loc_calls.specs.Table.{Entry, value_of}
use Rattle.loc_calls.specs.Stores.{gather, row_of}
use Rattle.loc_calls.specs.Reading.{window_end, within}
use Rattle.loc_calls.specs.Audit.{body_end_after, span_end_after, both_ends, checkpoint_sound, byte_fits, row_fits, row_wanted, row_sound, rows_sound, sound}
use Rattle.loc_calls.specs.Calls.{audit}
use Rattle.loc_calls.proofs.Gathered.{AllValid, valid_at}
use Rattle.loc_calls.proofs.State.{count_is, few, slot_at_lem, checkpoint_fill}
use Rattle.loc_calls.proofs.Opening.{Full}
use Rattle.loc_calls.proofs.Settled.{not_1_nor_6}
use Rattle.loc_calls.proofs.Chains.{lens, spans, Good}
use Rattle.loc_calls.proofs.Reading.{rows_are, all_are, all_there, strides_sum, spans_sum, body_window, span_window}

-- ---- sums

module _ (k : Kind) (a : Areas) (E : List Entry) (s : Full k a E) (n : ℕ) (h : n ≤ length E) where
  body_sum : body_end_after k a n ≡ 16 + lens (take n E)
  unfolding body_end_after lens
  body_sum = omega (arith, strides_sum k a E s 0 n (omega arith), ap (λ (i : ℕ). lens (take i E)) (zero-add n))

  span_sum_lem : span_end_after k a n ≡ 16 + 8 * spans (take n E)
  unfolding span_end_after spans
  span_sum_lem = omega (arith, spans_sum k a E s 0 n (omega arith), ap (λ (i : ℕ). spans (take i E)) (zero-add n))

-- ---- rows

-- a value's byte as it is stored, and a slot whose record needs a row, fit
byte_fits_lem : (x : ℕ) → 0 < x → byte_fits (below 256 x) x ≡ true
byte_fits_lem x h = go (is? (ltb x 256))
  where
    go : (ltb x 256 ≡ true) ⊎ (ltb x 256 ≡ false) → byte_fits (below 256 x) x ≡ true
    go (inl t) = rw (t, ne_eqb x 0 (λ z. omega arith)) (eq-eqb x x refl)
    go (inr t) = rw t (le-leb 256 x (ltb-false x 256 t))

slot_fits : (k : Kind) (v : Value) → Valid k v → stored_as_zero k v ≡ true → row_fits k (slot k v) v ≡ true
unfolding row_fits slot stored_as_zero SpansFit
slot_fits Paired v h z = rw (byte_fits_lem v.strides h.some, byte_fits_lem v.spans h.spans_fit.0) refl
slot_fits Single v h z = z

slot_wants : (k : Kind) (v : Value) → Valid k v → needs_row k (slot k v) ≡ true → row_wanted k (slot k v) v ≡ true
unfolding row_wanted
slot_wants k v h t = rw t (slot_fits k v h (sym (needs_row_lem k v h) ∙ t))

-- the cut rule asks less: it matches every row that is wanted
pub wanted_matches : (k : Kind) (s : Bytes) (v : Value) → row_wanted k s v ≡ true → matches k s v ≡ true
unfolding row_wanted row_fits needs_row matches
wanted_matches Single s v e = e
wanted_matches Paired s v e = go (is? (eqb (byte 0 s) 0)) (is? (eqb (byte 1 s) 0))
  where
    first : byte_fits (byte 0 s) v.strides ≡ true
    first = both_left (byte_fits (byte 0 s) v.strides) (byte_fits (byte 1 s) v.spans) (both_right (needs_row Paired s) (row_fits Paired s v) e)

    second : byte_fits (byte 1 s) v.spans ≡ true
    second = both_right (byte_fits (byte 0 s) v.strides) (byte_fits (byte 1 s) v.spans) (both_right (needs_row Paired s) (row_fits Paired s v) e)

    go : (eqb (byte 0 s) 0 ≡ true) ⊎ (eqb (byte 0 s) 0 ≡ false) → (eqb (byte 1 s) 0 ≡ true) ⊎ (eqb (byte 1 s) 0 ≡ false) → matches Paired s v ≡ true
    go (inl x) (inl y) = let f : leb 256 v.strides ≡ true = rw x at first in rw (x, y, f) refl
    go (inl x) (inr y) =
        let f : leb 256 v.strides ≡ true = rw x at first in
        let g : eqb (byte 1 s) v.spans ≡ true = rw y at second in
        rw (x, y, f, g) refl
    go (inr x) (inl y) =
        let f : eqb (byte 0 s) v.strides ≡ true = rw x at first in
        let g : leb 256 v.spans ≡ true = rw y at second in
        rw (x, y, f, g) refl
    go (inr x) (inr y) = absurd (false≢true (sym (rw (x, y) refl) ∙ both_left (needs_row Paired s) (row_fits Paired s v) e))

module _ (k : Kind) (a : Areas) (E : List Entry) (s : Full k a E) where
  row_sound_lem : (P : List Entry) (e : Entry) (S : List Entry) → E ≡ P ++ (e ∷ S) → needs_row k (slot k (value_of e)) ≡ true → row_sound k a (row k (suc (length P)) (value_of e)) ≡ true
  unfolding row_sound within
  row_sound_lem P e S q t =
      rw (
        row_number_lem k (suc (length P)) (value_of e) (omega (arith, total, few k a E _ _ s)),
        slot_at_lem k a E _ _ s P e S q,
        row_value_lem k (suc (length P)) (value_of e) valid,
        count_is k a E _ _ s,
        lt-ltb 0 (suc (length P)) (omega arith),
        le-leb (suc (length P)) (length E) (omega (arith, total)),
      ) (slot_wants k (value_of e) valid t)
    where
      total : length E ≡ length P + suc (length S)
      total = ap length q ∙ length-append P (e ∷ S)

      valid : Valid k (value_of e)
      valid = (valid_at k P e S (subst (AllValid k) q s.valid)).value

  rows_sound_lem : (P S : List Entry) → E ≡ P ++ S → rows_sound k a (gather (row_of k) (length P) S) ≡ true
  unfolding rows_sound gather row_of
  rows_sound_lem P [] q = refl
  rows_sound_lem P (e ∷ S) q =
      go (is? (needs_row k (slot k (value_of e))))
      (subst (λ (n : ℕ). rows_sound k a (gather (row_of k) n S) ≡ true) (length-append P (e ∷ []) ∙ omega arith) (rows_sound_lem (P ++ (e ∷ [])) S (q ∙ sym (append_assoc P (e ∷ []) S))))
    where
      go : (needs_row k (slot k (value_of e)) ≡ true) ⊎ (needs_row k (slot k (value_of e)) ≡ false) → rows_sound k a (gather (row_of k) (suc (length P)) S) ≡ true
          → rows_sound k a (cond (needs_row k (slot k (value_of e))) (row k (suc (length P)) (value_of e) ∷ []) [] ++ gather (row_of k) (suc (length P)) S) ≡ true
      go (inl t) r = rw (t, row_sound_lem P e S q t) r
      go (inr t) r = rw t r

-- ---- checkpoints, ends, and the index

both : (k : Kind) (x y : Bool) → x ≡ true → (k ≡ Paired → y ≡ true) → both_ends k x y ≡ true
both Paired x y p q = rw (p, q refl) refl
both Single x y p q = p

module _ (k : Kind) (a : Areas) (E : List Entry) (s : Full k a E) (g : Good E) where
  span_ends : (w : ℕ) → 1024 * w ≤ length E → k ≡ Paired → window_end k a 8 w ≡ span_end_after k a (1024 * w)
  span_ends w h p = go k p s
    where
      go : (k : Kind) → k ≡ Paired → Full k a E → window_end k a 8 w ≡ span_end_after k a (1024 * w)
      go Paired p s = span_window a E s g w h ∙ sym (span_sum_lem Paired a E s (1024 * w) h)
      go Single p s = cc

  checkpoint_sound_lem : (w : ℕ) → 1024 * w ≤ length E → checkpoint_sound k a w ≡ true
  unfolding checkpoint_sound
  checkpoint_sound_lem w h =
      rw (count_is k a E _ _ s, le-leb (1024 * w) (length E) h)
      (both k _ _
      (eq-eqb (window_end k a 0 w) (body_end_after k a (1024 * w)) (body_window k a E s g w h ∙ sym (body_sum k a E s (1024 * w) h)))
      (λ p. eq-eqb (window_end k a 8 w) (span_end_after k a (1024 * w)) (span_ends w h p)))

  ends_below : both_ends k (ltb (body_end_after k a (length E)) (2 ^ 64)) (ltb (span_end_after k a (length E)) (2 ^ 64)) ≡ true
  ends_below =
      both k _ _
      (lt-ltb (body_end_after k a (length E)) (2 ^ 64) (omega (arith, body_sum k a E s (length E) (omega arith), ap lens (take-length E), g.body)))
      (λ _. lt-ltb (span_end_after k a (length E)) (2 ^ 64) (omega (arith, span_sum_lem k a E s (length E) (omega arith), ap spans (take-length E), g.span)))

  pub is_sound_lem : sound k a ≡ true
  unfolding sound
  is_sound_lem =
      rw (
        count_is k a E _ _ s,
        checkpoint_fill k a E _ _ s,
        all_there k a E s 0 (length E) (omega arith),
        all_are (checkpoint_sound k a) 0 (length E / 1024) (λ i q. checkpoint_sound_lem (suc i) (omega arith)),
        ends_below,
        rows_are k a E s,
      ) (rows_sound_lem k a E s [] E refl)

  pub full_audits : (audit k a).answer ≡ answer 0 1
  unfolding audit
  full_audits = rw (not_1_nor_6 k a E s, is_sound_lem) refl
