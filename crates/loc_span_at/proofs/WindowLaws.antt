-- A quarter's ranges by its sums: the lowest that holds the address, or that none does.
-- W is where the window's spans start, x the address.
use Prim.Native.Nat.{ℕ, zero, suc, ◌+◌, ◌-◌, ◌*◌, ◌/◌, ◌%◌, ◌^◌, ◌≤◌, ◌<◌}
use mathlib.Core.Path.{◌≡◌, refl, sym, ap, ◌∙◌}
use mathlib.Core.Logic.{◌⊎◌, inl, inr, ⊎_elim}
use mathlib.Core.Bool.{true, false, ◌&&◌, true≢false}
use mathlib.Core.List.{List}
use native.Mathlib.Nat.{eq-or-lt_of_le}
use native.Mathlib.Decide.{dec_le}
use native.Mathlib.Omega.{arith}
use lib.Dec.{leb, ltb}
use borrow.Author.Tests.{leb-true, ltb-true, le-leb, lt-ltb}
use Rattle.loc_leaf.specs.declared.Kind.TheVariants.{Paired}
use Rattle.loc_leaf.proofs.Booleans.{both_left, both_right, not_true_is_false}
use Rattle.loc_calls.specs.Areas.{Areas, count}
use Rattle.loc_calls.specs.Table.{saturated}
use Rattle.loc_calls.specs.Reading.{first_after, value_at, spans_after, window_end, within, words, words_for}
use Rattle.loc_calls.specs.SpanAt.{Crossing, span_start, span_length, holds, refused_by, crossing}
use Rattle.loc_calls.proofs.Lowest.{lowest_none, lowest_is, lowest}
use Rattle.loc_calls.proofs.Located.{held_range, range_held}
use Rattle.loc_whole.proofs.TotalLaws.{spans_none, spans_next, spans_parts}
use Rattle.loc_span_at.specs.declared.Part.{Part}
use Rattle.loc_span_at.specs.declared.Span.{Span}
use Rattle.loc_span_at.specs.Find.{Holding, Crossed}
use Rattle.loc_span_at.specs.Windows.{crossing_after, Quarter}

-- ---- whether spans hold an address

module _ (start before spans x : ℕ) where
  hold_yes : (leb (start + 8 * before) x && ltb x (start + 8 * (before + spans))) ≡ true → (start + 8 * before ≤ x) × (x < start + 8 * (before + spans))
  hold_yes e = (
    leb-true (start + 8 * before) x (both_left (leb (start + 8 * before) x) (ltb x (start + 8 * (before + spans))) e),
    ltb-true x (start + 8 * (before + spans)) (both_right (leb (start + 8 * before) x) (ltb x (start + 8 * (before + spans))) e),
  )

  pub hold_start : (leb (start + 8 * before) x && ltb x (start + 8 * (before + spans))) ≡ true → start ≤ x
  hold_start e = omega (arith, (hold_yes e).0)

  hold_no : (leb (start + 8 * before) x && ltb x (start + 8 * (before + spans))) ≡ false → (x < start + 8 * before) ⊎ (start + 8 * (before + spans) ≤ x)
  hold_no e = go (dec_le (start + 8 * before) x) (dec_le (suc x) (start + 8 * (before + spans)))
    where
      go : Dec (start + 8 * before ≤ x) → Dec (x < start + 8 * (before + spans)) → (x < start + 8 * before) ⊎ (start + 8 * (before + spans) ≤ x)
      go (yes l) (yes h) = absurd (true≢false (sym (rw (le-leb (start + 8 * before) x l, lt-ltb x (start + 8 * (before + spans)) h) refl) ∙ e))
      go (yes l) (no h) = inr (omega arith)
      go (no l) h = inl (omega arith)

-- ---- the ranges of a window's records

module _ (a : Areas) (x w W : ℕ) (eW : W ≡ window_end Paired a 8 w) (fitsW : W < 2 ^ 64) (fits : x < 2 ^ 64) where
  abbrev first : ℕ
  first = 1024 * w

  abbrev f : ℕ → List ℕ
  f = words_for Paired a

  -- the spans of the window's first j records
  abbrev sum : ℕ → ℕ
  sum j = spans_after Paired a first j

  sum_rises : (n j : ℕ) → j ≤ n → sum j ≤ sum n
  sum_rises zero j h = let e : j ≡ 0 = omega arith in rw e (omega arith)
  sum_rises (suc n) j h =
      ⊎_elim (λ (e : j ≡ suc n). rw e (omega arith)) (λ (l : j < suc n). omega (arith, sum_rises n j (omega arith), spans_next a first n)) (eq-or-lt_of_le h)

  module _ (j : ℕ) (h : j < 1024) (counted : first + suc j ≤ count a) where
    abbrev id : ℕ
    id = first + suc j

    inside : within (count a) id ≡ true
    unfolding within
    inside = rw (lt-ltb 0 id (omega arith), le-leb id (count a) counted) refl

    start_is : span_start f id ≡ saturated (W + 8 * sum j)
    unfolding words_for words
    start_is =
        let p : (first + suc j - 1) / 1024 ≡ w = omega arith in
        let q : (first + suc j - 1) % 1024 ≡ j = omega arith in
        rw (inside, p, q, eW) refl

    length_is : span_length f id ≡ 8 * (value_at Paired a id).spans
    unfolding words_for words
    length_is = rw inside refl

    -- the address is before the window's spans, behind the record's, or among these. It may be 2^64 − 1: there the ranges of all records start that would start later
    before_start : x < W → holds f x id ≡ false
    before_start l = not_true_is_false (holds f x id) (λ t. omega (arith, (held_range f x id t).0, start_is))

    behind_end : W + 8 * sum (suc j) ≤ x → holds f x id ≡ false
    behind_end l = not_true_is_false (holds f x id) (λ t. omega (arith, (held_range f x id t).1, start_is, length_is, spans_next a first j))

    among : W + 8 * sum j ≤ x → x < W + 8 * sum (suc j) → holds f x id ≡ true
    among l r = range_held f x id (omega (arith, start_is)) (omega (arith, start_is, length_is, spans_next a first j))

  -- one of the first p records holds an address before their end
  reached : (p : ℕ) → p ≤ 1024 → first + p ≤ count a → W ≤ x → x < W + 8 * sum p → ((j : ℕ) → j < p → holds f x (first + suc j) ≡ false) → ⊥
  reached zero h c l r none = omega (arith, spans_none a first)
  reached (suc p) h c l r none = go (dec_le (W + 8 * sum p) x) (λ g. reached p (omega arith) (omega arith) l g (λ j q. none j (omega arith)))
    where
      go : Dec (W + 8 * sum p ≤ x) → (x < W + 8 * sum p → ⊥) → ⊥
      go (yes g) ih = true≢false (sym (among p (omega arith) (omega arith) g r) ∙ none p (omega arith))
      go (no g) ih = ih (omega arith)

-- ---- the ranges of a quarter's records

module _ (a : Areas) (nr x q m row before total W : ℕ) (g : Quarter a nr q m row before total) (eW : W ≡ window_end Paired a 8 (q / 4)) (fitsW : W < 2 ^ 64) (fits : x < 2 ^ 64) where
  abbrev w : ℕ
  w = q / 4

  -- how many records of the window stand before it
  abbrev p : ℕ
  p = 256 * (q % 4)

  abbrev words_of : ℕ → List ℕ
  words_of = words_for Paired a

  place : (j : ℕ) → 256 * q + suc j ≡ 1024 * w + suc (p + j)
  place j = omega arith

  -- the spans of the window before its record j + 1
  sum_is : (j : ℕ) → before + spans_after Paired a (256 * q) j ≡ spans_after Paired a (1024 * w) (p + j)
  sum_is j =
      let e : 1024 * w + p ≡ 256 * q = omega arith in
      omega (arith, g.is_before, spans_parts a (1024 * w) p j, ap (λ (i : ℕ). spans_after Paired a i j) e)

  -- ---- none holds it, where no record before the quarter does

  none_held : ((j : ℕ) → j < m → holds words_of x (256 * q + suc j) ≡ false) → refused_by 21 ≡ crossing_after a x (256 * q) m
  unfolding crossing
  none_held h = rw (lowest_none (holds words_of x) (256 * q) m h) refl

  module _ (none : first_after (holds words_of x) 0 (256 * q) ≡ 0) where
    none_sooner : (j : ℕ) → j < p → holds words_of x (1024 * w + suc j) ≡ false
    none_sooner j h =
        let e : 1024 * w + suc j ≡ suc (1024 * w + j) = omega arith in
        ap (holds words_of x) e ∙ ((lowest (holds words_of x) (256 * q)).below (1024 * w + j) (omega arith)).0 none

    pub none_there : (leb (W + 8 * before) x && ltb x (W + 8 * (before + total))) ≡ false → refused_by 21 ≡ crossing_after a x (256 * q) m
    none_there e = none_held (λ j h. ap (holds words_of x) (place j) ∙ go j h (dec_le W x) (hold_no W before total x e))
      where
        go : (j : ℕ) → j < m → Dec (W ≤ x) → (x < W + 8 * before) ⊎ (W + 8 * (before + total) ≤ x) → holds words_of x (1024 * w + suc (p + j)) ≡ false
        go j h (no l) o = before_start a x w W eW fitsW fits (p + j) (omega (arith, g.few)) (omega (arith, g.counted)) (omega arith)
        go j h (yes l) (inl r) =
            absurd (reached a x w W eW fitsW fits p (omega arith) (omega (arith, g.counted)) l (omega (arith, g.is_before)) none_sooner)
        go j h (yes l) (inr r) =
            let n : p + suc j ≡ suc (p + j) = omega arith in
            behind_end a x w W eW fitsW fits (p + j) (omega (arith, g.few)) (omega (arith, g.counted))
            (omega (arith, g.is_total, sum_is m, sum_rises a x w W eW fitsW fits (p + m) (suc (p + j)) (omega arith)))

  -- ---- one holds it

  module _ (le : W ≤ x) (r : Span) (v : Crossed a (256 * q) m before ((x - W) / 8) r) where
    abbrev k : ℕ
    k = v.place

    counted_there : 1024 * w + suc (p + k) ≤ count a
    counted_there = omega (arith, g.counted, v.inside)

    low : spans_after Paired a (1024 * w) (p + k) + r.index ≡ (x - W) / 8
    low = omega (arith, v.is_span, sum_is k)

    high : (x - W) / 8 < spans_after Paired a (1024 * w) (suc (p + k))
    high = omega (arith, low, v.own, spans_next a (1024 * w) (p + k), ap (λ (i : ℕ). (value_at Paired a i).spans) (place k))

    is_first_lem : first_after (holds words_of x) (256 * q) m ≡ 256 * q + suc k
    is_first_lem =
        lowest_is (holds words_of x) (256 * q) k m v.inside
        (λ j h. ap (holds words_of x) (place j)
        ∙ behind_end a x w W eW fitsW fits (p + j) (omega (arith, g.few, v.inside)) (omega (arith, g.counted, v.inside))
        (omega (arith, low, sum_rises a x w W eW fitsW fits (p + k) (suc (p + j)) (omega arith))))
        (ap (holds words_of x) (place k) ∙ among a x w W eW fitsW fits (p + k) (omega (arith, g.few, v.inside)) counted_there (omega (arith, low)) (omega (arith, high)))

    given : ℕ → ℕ → ℕ → Crossing
    given id i d = record { number = 0; «record» = id; index = i; remainder = d }

    abbrev start : ℕ
    start = W + 8 * spans_after Paired a (1024 * w) (p + k)

    pub held_there : record { number = 0; «record» = r.«record»; index = r.index; remainder = (x - W) % 8 } ≡ crossing_after a x (256 * q) m
    unfolding crossing given
    held_there =
        let n : 256 * q + suc k ≡ suc (256 * q + k) = omega arith in
        let s : span_start words_of (suc (256 * q + k)) ≡ start =
        ap (span_start words_of) (sym n ∙ place k) ∙ start_is a x w W eW fitsW fits (p + k) (omega (arith, g.few, v.inside)) counted_there ∙ omega (arith, low) in
        let i : r.index ≡ (x - start) / 8 = omega (arith, low) in
        let d : (x - W) % 8 ≡ (x - start) % 8 = omega (arith, low) in
        ap (λ (z : ℕ). given z r.index ((x - W) % 8)) (v.is_record ∙ n) ∙ ap (λ (z : ℕ). given (suc (256 * q + k)) z ((x - W) % 8)) i
        ∙ ap (λ (z : ℕ). given (suc (256 * q + k)) ((x - start) / 8) z) d
        ∙ sym (ap (crossing words_of x) (is_first_lem ∙ n) ∙ ap (λ (z : ℕ). given (suc (256 * q + k)) ((x - z) / 8) ((x - z) % 8)) s)

-- ---- the span is looked for in the quarter

pub quarter_holding : (a : Areas) (nr q : ℕ) (p : Part) (total W x : ℕ) → Quarter a nr q p.m p.row p.before total → 256 * q ≡ p.base → x < 2 ^ 64
    → (leb (W + 8 * p.before) x && ltb x (W + 8 * (p.before + total))) ≡ true → Holding a nr ((x - W) / 8) p
quarter_holding a nr q p total W x v eq h e =
    let s = hold_yes W p.before total x e in
    record {
      ready = rw (← eq) v.ready;
      known = rw (← eq) v.known;
      fits = omega arith;
      low = omega (arith, s.0);
      high = rw (← eq) (omega (arith, s.0, s.1, v.is_total));
    }
