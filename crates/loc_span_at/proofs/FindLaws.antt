-- Halves of a part, and the record of a part by its running sums.
-- Each law takes what the sums of the part's first records, or of each number of them, say.
use Prim.Native.Nat.{ℕ, zero, suc, ◌+◌, ◌-◌, ◌*◌, ◌/◌, ◌^◌, ◌≤◌, ◌<◌}
use mathlib.Core.Path.{◌≡◌, refl, sym, ap, ◌∙◌, subst}
use mathlib.Core.Logic.{⊎_elim}
use mathlib.Core.Bool.{true, false, ◌&&◌, true≢false}
use mathlib.Core.List.{List}
use native.Mathlib.Nat.{eq-or-lt_of_le}
use native.Mathlib.Numerals.{add-one}
use native.Mathlib.Omega.{arith}
use lib.ListN.{get_or}
use Rattle.loc_leaf.specs.declared.Kind.TheVariants.{Paired}
use Rattle.loc_leaf.specs.Bytes.{Bytes}
use Rattle.loc_leaf.proofs.Booleans.{both_left, both_right}
use Rattle.loc_calls.specs.Areas.{Areas, areas}
use Rattle.loc_calls.specs.Reading.{lookup_at, value_at, complete, spans_after}
use Rattle.loc_window.specs.declared.Sums.{Sums}
use Rattle.std.specs.Prelude.{Option, Some, None}
use Rattle.loc_whole.specs.Totals.{Walkable, Totals, Totalled, Running}
use Rattle.loc_whole.proofs.TotalLaws.{walkable_first, walkable_rest, spans_none, spans_next, known_parts, spans_parts, totalled_next, totalled_lack, totalled_running}
use Rattle.loc_span_at.specs.declared.Part.{Part}
use Rattle.loc_span_at.specs.declared.Span.{Span}
use Rattle.loc_span_at.specs.Find.{part_of, Holding, Inside, Halved, FirstAbove, Crossed}

-- ---- halves

module _ (a : Areas) (nr t : ℕ) (p : Part) (g : Holding a nr t p) (n : ℕ) (h : n < p.m) where
  abbrev left : ℕ
  left = p.m - n

  both : n + left ≡ p.m
  both = omega arith

  -- the first n records, and the rest
  both_known : (complete Paired a p.base n && complete Paired a (p.base + n) left) ≡ true
  both_known = sym (known_parts a p.base n left) ∙ ap (complete Paired a p.base) both ∙ g.known

  first_known : complete Paired a p.base n ≡ true
  first_known = both_left (complete Paired a p.base n) (complete Paired a (p.base + n) left) both_known

  both_spans : spans_after Paired a p.base p.m ≡ spans_after Paired a p.base n + spans_after Paired a (p.base + n) left
  both_spans = sym (ap (spans_after Paired a p.base) both) ∙ spans_parts a p.base n left

  module _ (some : 0 < n) (s : Sums) (w : Totals a p.base n s) where
    -- the span is in the first n records
    first_half : t < p.before + s.spans → Halved a nr t p (part_of p.base n p.row p.before)
    first_half l = record {
      holding = record {
        ready = walkable_first a.slots a.rows nr p.base p.m p.row g.ready n some (omega arith);
        known = first_known;
        fits = g.fits;
        low = g.low;
        high = omega (arith, w.is_spans);
      };
      inside = record { place = 0; is_first = omega arith; fits = omega arith; is_before = omega (arith, spans_none a p.base) };
      less = h;
    }

    -- or in the rest
    rest_half : p.before + s.spans ≤ t → Halved a nr t p (part_of (p.base + n) left s.row (p.before + s.spans))
    rest_half l = record {
      holding = record {
        ready = walkable_rest a.slots a.rows nr p.base p.m p.row g.ready n h s.row w.passed;
        known = both_right (complete Paired a p.base n) (complete Paired a (p.base + n) left) both_known;
        fits = g.fits;
        low = l;
        high = omega (arith, g.high, both_spans, w.is_spans);
      };
      inside = record { place = n; is_first = refl; fits = omega arith; is_before = omega (arith, w.is_spans) };
      less = omega arith;
    }

module _ (a : Areas) (nr t : ℕ) (p : Part) (g : Holding a nr t p) (more : 8 < p.m) where
  abbrev n : ℕ
  n = 8 * ((p.m + 7) / 16)

  pub half_asks : Walkable a.slots a.rows nr p.base n p.row
  half_asks = walkable_first a.slots a.rows nr p.base p.m p.row g.ready n (omega arith) (omega arith)

  module _ (span : List ℕ) (r : Option Sums) (v : Totalled a p.base n false span r) where
    module _ (s : Sums) (e : r ≡ Some s) where
      total : Totals a p.base n s
      total = totalled_next a p.base n false span r v s e

      -- no sum wraps
      pub half_low : p.before + s.spans < 2 ^ 64
      half_low = omega (arith, g.low, g.fits, g.ready.few, total.spans_low)

      pub half_first : t < p.before + s.spans → Halved a nr t p (part_of p.base n p.row p.before)
      half_first l = first_half a nr t p g n (omega arith) (omega arith) s total l

      pub half_rest : p.before + s.spans ≤ t → Halved a nr t p (part_of (p.base + n) (p.m - n) s.row (p.before + s.spans))
      half_rest l = rest_half a nr t p g n (omega arith) (omega arith) s total l

    -- no row is lacking
    pub half_whole : r ≡ None → ⊥
    half_whole e = true≢false (sym (first_known a nr t p g n (omega arith)) ∙ totalled_lack a p.base n false span r v e)

-- ---- parts of parts

pub inside_itself : (a : Areas) (p : Part) → Inside a p p
inside_itself a p = record { place = 0; is_first = omega arith; fits = omega arith; is_before = omega (arith, spans_none a p.base) }

pub inside_inside : (a : Areas) (p q r : Part) → Inside a p q → Inside a q r → Inside a p r
inside_inside a p q r v w = record {
  place = v.place + w.place;
  is_first = omega (arith, v.is_first, w.is_first);
  fits = omega (arith, v.fits, w.fits);
  is_before = omega (arith, v.is_before, w.is_before, spans_parts a p.base v.place w.place, ap (λ (f : ℕ). spans_after Paired a f w.place) v.is_first);
}

-- a record of a part is one of the whole
pub crossed_inside : (a : Areas) (p q : Part) (t : ℕ) (r : Span) → Inside a p q → Crossed a q.base q.m q.before t r → Crossed a p.base p.m p.before t r
crossed_inside a p q t r v w =
    let e : q.base + suc w.place ≡ p.base + suc (v.place + w.place) = omega (arith, v.is_first) in
    record {
      place = v.place + w.place;
      inside = omega (arith, v.fits, w.inside);
      is_record = w.is_record ∙ e;
      is_span = omega (arith, w.is_span, v.is_before, spans_parts a p.base v.place w.place, ap (λ (f : ℕ). spans_after Paired a f w.place) v.is_first);
      own = subst (λ (id : ℕ). r.index < (value_at Paired a id).spans) e w.own;
    }

-- the checkpoints do not count
pub crossed_any : (s r c d : Bytes) (f m before t : ℕ) (x : Span) → Crossed (areas s r c) f m before t x → Crossed (areas s r d) f m before t x
unfolding spans_after value_at lookup_at
crossed_any s r c d f m before t x v =
    record { place = v.place; inside = v.inside; is_record = v.is_record; is_span = v.is_span; own = v.own }

-- ---- the record of a part

module _ (a : Areas) (nr t : ℕ) (p : Part) (g : Holding a nr t p) (span : List ℕ) (run : Running a p.base p.m span) (k : ℕ) (v : FirstAbove span p.m (t - p.before) k) where
  -- some sum is above: the last one is
  above : k < p.m
  above = ⊎_elim (λ (e : k ≡ p.m). absurd (go k refl e)) (λ (l : k < p.m). l) (eq-or-lt_of_le v.inside)
    where
      go : (i : ℕ) → k ≡ i → k ≡ p.m → ⊥
      go zero q e = omega (arith, g.low, g.high, ap (spans_after Paired a p.base) (sym q ∙ e), spans_none a p.base)
      go (suc i) q e =
          let z : i + 1 ≡ p.m = omega arith in
          omega (arith, g.low, g.high, v.below i (omega arith), run (i + 1) (omega arith), ap (spans_after Paired a p.base) z)

  low : spans_after Paired a p.base k ≤ t - p.before
  low = go k refl
    where
      go : (i : ℕ) → k ≡ i → spans_after Paired a p.base i ≤ t - p.before
      go zero e = omega (arith, spans_none a p.base)
      go (suc i) e = omega (arith, v.below i (omega arith), run (i + 1) (omega (arith, v.inside)), ap (spans_after Paired a p.base) (add-one i))

  -- the index does not wrap
  index_low : get_or span k 0 ≤ t - p.before
  index_low = omega (arith, low, run k v.inside)

  there : Crossed a p.base p.m p.before t (record { «record» = p.base + k + 1; index = t - p.before - get_or span k 0 })
  there = record {
    place = k;
    inside = above;
    is_record = omega arith;
    is_span = omega (arith, low, g.low, run k v.inside);
    own = omega (arith, low, run k v.inside, v.above above, run (k + 1) (omega (arith, above)), ap (spans_after Paired a p.base) (add-one k), spans_next a p.base k);
  }

module _ (a : Areas) (nr t : ℕ) (p : Part) (g : Holding a nr t p) (span : List ℕ) (r : Option Sums)
    (w : Totalled a p.base p.m true span r) (k : ℕ) (v : FirstAbove span p.m (t - p.before) k) where
  sums : Running a p.base p.m span
  sums = totalled_running a p.base p.m span r g.known w

  pub record_inside : k < p.m
  record_inside = above a nr t p g span sums k v

  pub record_low : get_or span k 0 ≤ t - p.before
  record_low = index_low a nr t p g span sums k v

  pub record_crossed : Crossed a p.base p.m p.before t (record { «record» = p.base + k + 1; index = t - p.before - get_or span k 0 })
  record_crossed = there a nr t p g span sums k v
