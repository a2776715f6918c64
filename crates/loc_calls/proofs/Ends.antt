-- Where by a reading of the last record the list ends.
-- For any areas it is what the words of that reading say; areas that hold a good list whole end where the list does.
use Prim.Native.Nat.{ℕ, zero, suc, ◌+◌, ◌-◌, ◌*◌}
use mathlib.Core.Path.{◌≡◌, refl, ap, ◌∙◌}
use mathlib.Core.Bool.{true, false, not}
use mathlib.Core.List.{List, [], ◌∷◌}
use native.Mathlib.Nat.{le_refl}
use native.Mathlib.Omega.{arith}
use lib.ListN.{length, take, get_or}
use lib.Seq.{take-length}
use borrow.Author.Tests.{lt-ltb, le-leb}
use Rattle.loc_leaf.specs.declared.Kind.{Kind}
use Rattle.loc_leaf.specs.declared.Kind.TheVariants.{Paired, Single}
use Rattle.loc_leaf.specs.Kind.{window_of, within_window}
use Rattle.loc_leaf.proofs.ValueLaws.{SpansFit}
use Rattle.loc_calls.specs.Areas.{Areas, count}
use Rattle.loc_calls.specs.Table.{Entry, value_of, saturated, ListEnd}
use Rattle.loc_calls.specs.Reading.{sum_after, all_after, complete, value_at, strides_after, spans_after, before, window_end, looked_at, within, row_missing, words, words_for, body_read, span_read, end_read}
use Rattle.loc_calls.proofs.Gathered.{AllValid}
use Rattle.loc_calls.proofs.State.{count_is}
use Rattle.loc_calls.proofs.Opening.{Full}
use Rattle.loc_calls.proofs.Chains.{lens, spans, Good}
use Rattle.loc_calls.proofs.Reading.{missing_none, strides_sum, spans_sum, body_window, span_window}

-- ---- any areas

-- the last record cannot be read where one of its window's records up to it lacks its row
pub last_unread : (k : Kind) (a : Areas) (n : ℕ) → count a ≡ n → row_missing k a n ≡ not (complete k a (before n) (n - before n))
unfolding row_missing within all_after
last_unread k a zero q = refl
last_unread k a (suc n) q = rw (q, lt-ltb 0 (suc n) (omega arith), le-leb (suc n) (suc n) (le_refl (suc n)), looked k) refl
  where
    looked : (k : Kind) → looked_at k (suc n) (suc n) ≡ suc n - before (suc n)
    looked Paired = unfold looked_at in omega arith
    looked Single = unfold looked_at in omega arith

-- of a full window its own records are added up, whatever the checkpoint behind it says
pub full_window : (k : Kind) (a : Areas) → count a ≡ 1024 → body_read k a ≡ 16 + 8 * strides_after k a 0 1024
unfolding body_read window_end
full_window k a e = rw e refl

-- the last record's start plus length, saturated, by the words of its reading
module _ (a : Areas) (n : ℕ) (e : count a ≡ suc n) where
  with_last : (g : ℕ → ℕ) → sum_after g (before (suc n)) (suc n - before (suc n)) ≡ sum_after g (before (suc n)) (within_window (suc n)) + g (suc n)
  unfolding sum_after
  with_last g =
      let p : suc n - before (suc n) ≡ suc (within_window (suc n)) = omega arith in
      let q : before (suc n) + suc (within_window (suc n)) ≡ suc n = omega arith in
      ap (sum_after g (before (suc n))) p ∙ ap (λ (i : ℕ). sum_after g (before (suc n)) (within_window (suc n)) + g i) q

  body_with_last : (k : Kind) → body_read k a ≡ window_end k a 0 (window_of (suc n)) + 8 * strides_after k a (before (suc n)) (within_window (suc n)) + 8 * (value_at k a (suc n)).strides
  unfolding body_read strides_after
  body_with_last k = rw e (omega (arith, with_last (λ i. (value_at k a i).strides)))

  span_with_last : span_read Paired a ≡ window_end Paired a 8 (window_of (suc n)) + 8 * spans_after Paired a (before (suc n)) (within_window (suc n)) + 8 * (value_at Paired a (suc n)).spans
  unfolding span_read spans_after
  span_with_last = rw e (omega (arith, with_last (λ i. (value_at Paired a i).spans)))

  counted_in : within (count a) (suc n) ≡ true
  unfolding within
  counted_in = rw (e, lt-ltb 0 (suc n) (omega arith), le-leb (suc n) (suc n) (le_refl (suc n))) refl

  pub body_by_reading : (k : Kind) → saturated (get_or (words_for k a (suc n)) 1 0 + get_or (words_for k a (suc n)) 2 0) ≡ saturated (body_read k a)
  unfolding words_for words
  body_by_reading Paired = rw counted_in (omega (arith, body_with_last Paired))
  body_by_reading Single = rw counted_in (omega (arith, body_with_last Single))

  pub span_by_reading : saturated (get_or (words_for Paired a (suc n)) 3 0 + get_or (words_for Paired a (suc n)) 4 0) ≡ saturated (span_read Paired a)
  unfolding words_for words
  span_by_reading = rw counted_in (omega (arith, span_with_last))

-- ---- areas that hold a list

pub no_spans : (E : List Entry) → AllValid Single E → spans E ≡ 0
unfolding AllValid spans SpansFit value_of
no_spans [] v = refl
no_spans (e ∷ E) v = omega (arith, v.0.value.spans_fit, no_spans E v.1)

whole : (n : ℕ) → before n + (n - before n) ≡ n
whole n = omega arith

body_read_lem : (k : Kind) (a : Areas) (E : List Entry) → Full k a E → Good E → body_read k a ≡ 16 + lens E
unfolding body_read
body_read_lem k a E s g =
    rw (count_is k a E _ _ s)
    (omega (
      arith,
      body_window k a E s g (window_of (length E)) (omega arith),
      strides_sum k a E s (before (length E)) (length E - before (length E)) (omega arith),
      ap (λ (j : ℕ). lens (take j E)) (whole (length E)),
      ap lens (take-length E),
    ))

span_read_lem : (k : Kind) (a : Areas) (E : List Entry) → Full k a E → Good E → span_read k a ≡ 16 + 8 * spans E
unfolding span_read
span_read_lem Paired a E s g =
    rw (count_is Paired a E _ _ s)
    (omega (
      arith,
      span_window a E s g (window_of (length E)) (omega arith),
      spans_sum Paired a E s (before (length E)) (length E - before (length E)) (omega arith),
      ap (λ (j : ℕ). spans (take j E)) (whole (length E)),
      ap spans (take-length E),
    ))
span_read_lem Single a E s g = omega (arith, no_spans E s.valid)

-- where a good list ends
abbrev pub end_of : List Entry → ListEnd
end_of E = record { unread = false; body = 16 + lens E; span = 16 + 8 * spans E }

pub end_read_lem : (k : Kind) (a : Areas) (E : List Entry) → Full k a E → Good E → end_read k a ≡ end_of E
unfolding end_read
end_read_lem k a E s g = rw (missing_none k a E s (count a), body_read_lem k a E s g, span_read_lem k a E s g) refl
