-- span_at on areas that hold the book's list answers by the words of that list.
-- The ranges of any list's records lie one after the other from 16 on: an address below their end is in one of them, and in no other.
use Prim.Native.Nat.{ℕ, zero, suc, ◌+◌, ◌-◌, ◌*◌, ◌≤◌, ◌<◌}
use mathlib.Core.Path.{◌≡◌, refl, sym, ap, ◌∙◌}
use mathlib.Core.Logic.{◌⊎◌, inl, inr}
use mathlib.Core.Bool.{true, false, true≢false}
use mathlib.Core.List.{List, [], ◌∷◌, ◌++◌}
use native.Mathlib.Nat.{zero-add}
use native.Mathlib.Decide.{dec_le}
use native.Mathlib.Omega.{arith}
use lib.Dec.{leb, ltb}
use lib.ListN.{length, take, drop, get_or, take-append-drop}
use lib.Seq.{take-length, take-suc, take-take}
use borrow.Author.Tests.{leb-true, le-leb, lt-ltb}
use Rattle.loc_leaf.specs.declared.Kind.{Kind}
use Rattle.loc_leaf.specs.declared.Kind.TheVariants.{Paired}
use Rattle.loc_leaf.proofs.Booleans.{is?, both_right, not_true_is_false}
use Rattle.loc_calls.specs.Areas.{Areas}
use Rattle.loc_calls.specs.Reading.{first_after, within}
use Rattle.loc_calls.specs.Calls.{unless_refused, whole_refusal}
use Rattle.loc_calls.specs.SpanAt.{span_start, span_length, holds, refused_by, crossing, span_among, span_at}
use Rattle.loc_calls.proofs.State.{count_is}
use Rattle.loc_calls.proofs.Settled.{not_1_nor_6}
use Rattle.loc_calls.proofs.Reading.{all_there}
use Rattle.loc_calls.proofs.Lowest.{lowest_none, Lowest, lowest}
use Rattle.loc_calls.proofs.Located.{held_range, range_held}
use Rattle.loc_history.specs.Book.{Rec, span_sum, span_end, record_words, book_words, book_span_at}
use Rattle.loc_history.proofs.Steady.{Steady, count_book}
use Rattle.loc_history.proofs.Calls.{words_book}

-- ---- areas that hold the book's list

-- 1, 6 and 17 never come
pub not_refused : (k : Kind) (a : Areas) (L : List Rec) → Steady k a L → whole_refusal k a ≡ 0
unfolding whole_refusal
not_refused k a L t = rw (not_1_nor_6 k a t.E t.full, count_is k a t.E _ _ t.full, all_there k a t.E t.full 0 (length t.E) (omega arith)) refl

pub located_book : (a : Areas) (L : List Rec) → Steady Paired a L → (x : ℕ) → span_at a x ≡ book_span_at L x
unfolding span_at book_span_at unless_refused
located_book a L t x = rw (not_refused Paired a L t, words_book Paired a L t, count_book Paired a L t) refl

-- ---- the ranges of a list

-- the end of the first i records' spans
abbrev pub spans_to : List Rec → ℕ → ℕ
spans_to L i = span_end (take i L)

-- address x is in the range of record i + 1: from the end of the spans before it to their end with its own
pub record InRange (L : List Rec) (x i : ℕ) : Type 0 where
  pub inside : i < length L
  pub from : spans_to L i ≤ x
  pub to : x < spans_to L (suc i)

sum_append : (L M : List Rec) → span_sum (L ++ M) ≡ span_sum L + span_sum M
unfolding span_sum
sum_append [] M = omega arith
sum_append (r ∷ L) M = omega (arith, sum_append L M)

module _ (L : List Rec) where
  ends_rise : (i j : ℕ) → i ≤ j → spans_to L i ≤ spans_to L j
  unfolding span_end
  ends_rise i j h = omega (arith, sum_append (take i (take j L)) (drop i (take j L)), ap span_sum (take-append-drop i (take j L)), ap span_sum (take-take i j L h))

  all_spans : spans_to L (length L) ≡ span_end L
  all_spans = ap span_end (take-length L)

  module _ (i : ℕ) (h : i < length L) where
    abbrev r : Rec
    r = get_or L i (record { len = 0; spans = 0 })

    words_here : book_words Paired L (suc i) ≡ record_words Paired (take i L) r
    unfolding book_words within
    words_here =
        let e : suc i - 1 ≡ i = omega arith in
        rw (lt-ltb 0 (suc i) (omega arith), le-leb (suc i) (length L) h, e) refl

    start_is : span_start (book_words Paired L) (suc i) ≡ spans_to L i
    unfolding record_words
    start_is = ap (λ (l : List ℕ). get_or l 3 0) words_here

    length_is : span_length (book_words Paired L) (suc i) ≡ 8 * r.spans
    unfolding record_words
    length_is = ap (λ (l : List ℕ). get_or l 4 0) words_here

    end_is : span_start (book_words Paired L) (suc i) + span_length (book_words Paired L) (suc i) ≡ spans_to L (suc i)
    unfolding span_end span_sum
    end_is = omega (arith, start_is, length_is, ap span_sum (take-suc L i (record { len = 0; spans = 0 }) h), sum_append (take i L) (r ∷ []))

-- ---- whose range holds an address

module _ (L : List Rec) (x : ℕ) where
  -- no number outside the list has a range
  none_outside : (id : ℕ) → within (length L) id ≡ false → holds (book_words Paired L) x id ≡ true → ⊥
  unfolding book_words
  none_outside id e h = none (rw e at (held_range (book_words Paired L) x id h).1)
    where
      none : x < 0 + 0 → ⊥
      none l = omega arith

  held_inside : (i : ℕ) → holds (book_words Paired L) x (suc i) ≡ true → i < length L
  unfolding within
  held_inside i h = go (is? (within (length L) (suc i)))
    where
      go : (within (length L) (suc i) ≡ true) ⊎ (within (length L) (suc i) ≡ false) → i < length L
      go (inl e) = leb-true (suc i) (length L) (both_right (ltb 0 (suc i)) (leb (suc i) (length L)) e)
      go (inr e) = absurd (none_outside (suc i) e h)

  pub held_in : (i : ℕ) → holds (book_words Paired L) x (suc i) ≡ true → InRange L x i
  held_in i h =
      let l : i < length L = held_inside i h in
      let r = held_range (book_words Paired L) x (suc i) h in
      record { inside = l; from = omega (arith, r.0, start_is L i l); to = omega (arith, r.1, end_is L i l) }

  pub in_held : (i : ℕ) → InRange L x i → holds (book_words Paired L) x (suc i) ≡ true
  in_held i r = range_held (book_words Paired L) x (suc i) (omega (arith, start_is L i r.inside, r.from)) (omega (arith, end_is L i r.inside, r.to))

  -- two records whose ranges hold the address are the same
  only : (i j : ℕ) → holds (book_words Paired L) x i ≡ true → holds (book_words Paired L) x j ≡ true → i ≡ j
  unfolding within
  only zero j p q = absurd (none_outside 0 refl p)
  only (suc i) zero p q = absurd (none_outside 0 refl q)
  only (suc i) (suc j) p q = ap suc (go (held_in i p) (held_in j q) (dec_le i j) (dec_le j i))
    where
      go : InRange L x i → InRange L x j → Dec (i ≤ j) → Dec (j ≤ i) → i ≡ j
      go p q (yes l) (yes g) = omega arith
      go p q (yes l) (no g) = absurd (omega (arith, p.to, q.from, ends_rise L (suc i) j (omega arith)))
      go p q (no l) g = absurd (omega (arith, q.to, p.from, ends_rise L (suc j) i (omega arith)))

  -- so the record that is answered is the only one
  pub only_record : (id : ℕ) → holds (book_words Paired L) x id ≡ true → (book_span_at L x).«record» ≡ id
  unfolding book_span_at span_among crossing within
  only_record id h = go (first_after (holds (book_words Paired L) x) 0 (length L)) (lowest (holds (book_words Paired L) x) (length L))
    where
      not_none : (j : ℕ) → holds (book_words Paired L) x j ≡ true → Lowest (holds (book_words Paired L) x) (length L) 0 → ⊥
      not_none zero p w = none_outside 0 refl p
      not_none (suc j) p w = true≢false (sym p ∙ (w.below j (held_inside j p)).0 refl)

      go : (i : ℕ) → Lowest (holds (book_words Paired L) x) (length L) i → (crossing (book_words Paired L) x i).«record» ≡ id
      go zero w = absurd (not_none id h w)
      go (suc i) w = only (suc i) id (w.holds (omega arith)) h

  -- and its crossing is the answer
  pub answer_there : (i : ℕ) → holds (book_words Paired L) x (suc i) ≡ true → book_span_at L x ≡ crossing (book_words Paired L) x (suc i)
  unfolding book_span_at span_among
  answer_there i h = ap (crossing (book_words Paired L) x) (own (first_after (holds (book_words Paired L) x) 0 (length L)) ∙ only_record (suc i) h)
    where
      own : (j : ℕ) → j ≡ (crossing (book_words Paired L) x j).«record»
      own zero = unfold crossing in refl
      own (suc j) = unfold crossing in refl

  -- an address below the end of the first n records' spans is in a range of theirs
  reached : (n : ℕ) → n ≤ length L → 16 ≤ x → x < spans_to L n → ((j : ℕ) → j < n → holds (book_words Paired L) x (suc j) ≡ false) → ⊥
  unfolding span_end span_sum
  reached zero h l g f = omega arith
  reached (suc n) h l g f = go (dec_le (spans_to L n) x) (λ q. reached n (omega arith) l q (λ j p. f j (omega arith)))
    where
      go : Dec (spans_to L n ≤ x) → (x < spans_to L n → ⊥) → ⊥
      go (yes q) ih = true≢false (sym (in_held n (record { inside = h; from = q; to = g })) ∙ f n (omega arith))
      go (no q) ih = ih (omega arith)

  -- every address from 16 up to the end of the spans has an answer
  pub every : 16 ≤ x → x < span_end L → (book_span_at L x).number ≡ 0
  unfolding book_span_at span_among crossing
  every l g = go (first_after (holds (book_words Paired L) x) 0 (length L)) (lowest (holds (book_words Paired L) x) (length L))
    where
      go : (i : ℕ) → Lowest (holds (book_words Paired L) x) (length L) i → (crossing (book_words Paired L) x i).number ≡ 0
      go zero w = absurd (reached (length L) (omega arith) l (rw (all_spans L) g) (λ j p. (w.below j p).0 refl))
      go (suc i) w = refl

  -- and no other
  pub outside : (x < 16) ⊎ (span_end L ≤ x) → book_span_at L x ≡ refused_by 21
  unfolding book_span_at span_among crossing
  outside o = rw (lowest_none (holds (book_words Paired L) x) 0 (length L) none) refl
    where
      not_in : (j : ℕ) → InRange L x j → (x < 16) ⊎ (span_end L ≤ x) → ⊥
      not_in j r (inl l) = unfold span_end in omega (arith, r.from)
      not_in j r (inr l) = omega (arith, r.to, ends_rise L (suc j) (length L) r.inside, all_spans L)

      none : (j : ℕ) → j < length L → holds (book_words Paired L) x (0 + suc j) ≡ false
      none j h = rw (zero-add (suc j)) (not_true_is_false (holds (book_words Paired L) x (suc j)) (λ p. not_in j (held_in j p) o))
