-- The call: quarters one after the other, and what it answers once all are passed.
-- x is the address.
use Prim.Native.Nat.{ℕ, zero, suc, ◌+◌, ◌-◌, ◌*◌, ◌/◌, ◌%◌, ◌^◌, ◌≤◌, ◌<◌, min}
use mathlib.Core.Path.{◌≡◌, refl, sym, ap, ◌∙◌, subst}
use mathlib.Core.Bool.{Bool, true, false, cond, true≢false}
use mathlib.Core.List.{List}
use native.Mathlib.Nat.{zero-add, not-suc-le-zero, suc-ne-zero}
use native.Mathlib.Decide.{dec_lt}
use native.Mathlib.Omega.{arith}
use lib.Dec.{eqb}
use lib.ListN.{length}
use borrow.Author.Tests.{eq-eqb, ne_eqb}
use Rattle.loc_leaf.specs.declared.Kind.TheVariants.{Paired}
use Rattle.loc_leaf.specs.Answers.{◌or_else◌, number_of}
use Rattle.loc_calls.specs.Areas.{Areas, count}
use Rattle.loc_calls.specs.Reading.{all_after, first_after, lookup_at, has, complete, spans_after, words_for}
use Rattle.loc_calls.specs.Calls.{unless_refused, first_refusal, whole_refusal}
use Rattle.loc_calls.specs.SpanAt.{Crossing, crossing_of, holds, refused_by, crossing, span_among, span_at}
use Rattle.loc_calls.proofs.Lowest.{lowest_parts}
use Rattle.loc_window.specs.declared.Sums.{Sums}
use Rattle.std.specs.Prelude.{Option, Some, None, Result, Ok, Err, is_ok}
use Rattle.loc_leaf.specs.declared.refusal.Refusal.{Refusal}
use Rattle.loc_leaf.proofs.Refusals.{number_some}
use Rattle.loc_calls.specs.declared.SpanAt.{SpanAt}
use Rattle.loc_window.specs.Window.{Rising}
use Rattle.loc_window.proofs.SumLaws.{all_more}
use Rattle.loc_store.specs.declared.Checked.{Checked}
use Rattle.loc_store.specs.Areas.{Checks}
use Rattle.loc_store.proofs.SettledLaws.{accepted_sized, accepted_ascends}
use Rattle.loc_whole.specs.Totals.{Walkable, Totals, Totalled}
use Rattle.loc_whole.proofs.TotalLaws.{spans_none, known_parts, spans_parts, totalled_next, totalled_lack}
use Rattle.loc_span_at.specs.Windows.{lowest_after, crossing_after, Quarter, Finding}

-- ---- what the code holds is a crossing or not

pub found_ok : (r : Result SpanAt Refusal) (b : Bool) → b ≡ is_ok r → b ≡ true → (crossing_of r).number ≡ 0
found_ok (Ok s) b e t = refl
found_ok (Err x) b e t = absurd (true≢false (sym t ∙ e))

pub found_err : (r : Result SpanAt Refusal) (b : Bool) → b ≡ is_ok r → b ≡ false → (crossing_of r).number ≡ 0 → ⊥
found_err (Ok s) b e t z = true≢false (sym e ∙ t)
found_err (Err x) b e t z = number_some x z

-- ---- the lowest record counts

module _ (a : Areas) (x f : ℕ) (found : Crossing) (e : found ≡ crossing_after a x 0 f) where
  -- nothing is found yet
  pub found_none : (found.number ≡ 0 → ⊥) → lowest_after a x 0 f ≡ 0
  unfolding crossing
  found_none h = go (lowest_after a x 0 f) refl
    where
      go : (i : ℕ) → lowest_after a x 0 f ≡ i → lowest_after a x 0 f ≡ 0
      go zero q = q
      go (suc i) q = absurd (h (ap (λ (s : Crossing). s.number) (e ∙ ap (crossing (words_for Paired a) x) q)))

  parts : (m : ℕ) → lowest_after a x 0 (f + m) ≡ (lowest_after a x 0 f or_else lowest_after a x f m)
  parts m = rw (zero-add f) at (lowest_parts (holds (words_for Paired a) x) 0 f m)

  pub found_stays : (m : ℕ) → found.number ≡ 0 → found ≡ crossing_after a x 0 (f + m)
  unfolding crossing
  found_stays m z = go (lowest_after a x 0 f) refl
    where
      go : (i : ℕ) → lowest_after a x 0 f ≡ i → found ≡ crossing_after a x 0 (f + m)
      go zero q = absurd (suc-ne-zero 20 (sym (ap (λ (s : Crossing). s.number) (e ∙ ap (crossing (words_for Paired a) x) q)) ∙ z))
      go (suc i) q = e ∙ ap (crossing (words_for Paired a) x) (q ∙ sym (parts m ∙ rw q refl))

  -- it says so
  pub found_21 : (found.number ≡ 0 → ⊥) → found ≡ refused_by 21
  unfolding crossing
  found_21 h = e ∙ ap (crossing (words_for Paired a) x) (found_none h)

  pub found_next : (m : ℕ) → (found.number ≡ 0 → ⊥) → (r : Crossing) → r ≡ crossing_after a x f m → r ≡ crossing_after a x 0 (f + m)
  found_next m h r er =
      let p : (lowest_after a x 0 f or_else lowest_after a x f m) ≡ lowest_after a x f m = rw (found_none h) refl in
      er ∙ ap (crossing (words_for Paired a) x) (sym (parts m ∙ p))

-- ---- the quarters

-- the spans of the window before the next quarter
next_before : (a : Areas) (q before spans : ℕ) → before ≡ spans_after Paired a (1024 * (q / 4)) (256 * (q % 4)) → spans ≡ spans_after Paired a (256 * q) 256
    → cond (eqb (q % 4) 3) 0 (before + spans) ≡ spans_after Paired a (1024 * ((q + 1) / 4)) (256 * ((q + 1) % 4))
next_before a q before spans e es = go (dec_lt (q % 4) 3)
  where
    go : Dec (q % 4 < 3) → cond (eqb (q % 4) 3) 0 (before + spans) ≡ spans_after Paired a (1024 * ((q + 1) / 4)) (256 * ((q + 1) % 4))
    go (no t) =
        let z : (q + 1) % 4 ≡ 0 = omega arith in
        rw (eq-eqb (q % 4) 3 (omega arith), z) (sym (spans_none a (1024 * ((q + 1) / 4))))
    go (yes t) =
        let w : (q + 1) / 4 ≡ q / 4 = omega arith in
        let p : 256 * ((q + 1) % 4) ≡ 256 * (q % 4) + 256 = omega arith in
        let i : 1024 * (q / 4) + 256 * (q % 4) ≡ 256 * q = omega arith in
        rw (ne_eqb (q % 4) 3 (λ z. omega arith), w, p) (omega (arith, e, es, spans_parts a (1024 * (q / 4)) (256 * (q % 4)) 256, ap (λ (f : ℕ). spans_after Paired a f 256) i))

next_low : (q before spans : ℕ) → before ≤ 256 * 2 ^ 32 * (q % 4) → spans ≤ 256 * 2 ^ 32 → cond (eqb (q % 4) 3) 0 (before + spans) ≤ 256 * 2 ^ 32 * ((q + 1) % 4)
next_low q before spans l h = go (dec_lt (q % 4) 3)
  where
    go : Dec (q % 4 < 3) → cond (eqb (q % 4) 3) 0 (before + spans) ≤ 256 * 2 ^ 32 * ((q + 1) % 4)
    go (yes t) = rw (ne_eqb (q % 4) 3 (λ z. omega arith)) (omega arith)
    go (no t) = rw (eq-eqb (q % 4) 3 (omega arith)) (omega arith)

-- of what the check of the areas found
module _ (a : Areas) (x : ℕ) (o : Checked) (w : Checks Paired a (Ok o)) (small : length a.slots < 2 ^ 64) where
  abbrev n : ℕ
  n = o.count

  abbrev nr : ℕ
  nr = o.row_count

  counted : n ≡ count a
  unfolding count
  counted = w.found.count

  room : 16 + 2 * n ≤ length a.slots
  room = omega (arith, w.found.room, (accepted_sized Paired a w.number).slots_hold)

  rise : Rising Paired a.rows nr
  rise = record { ascend = accepted_ascends Paired a w.number; counted = w.found.rows }

  pub finding_begins : (found : Crossing) → found ≡ refused_by 21 → Finding a x n 0 0 0 found
  unfolding all_after first_after crossing
  finding_begins found e =
      let z : 0 ≡ min (256 * 0) n = omega arith in
      record {
        inside = omega arith;
        known = subst (λ (i : ℕ). complete Paired a 0 i ≡ true) z refl;
        passed = λ i l. absurd (not-suc-le-zero l);
        is_before = λ h. sym (spans_none a 0);
        before_low = omega arith;
        is_found = subst (λ (i : ℕ). found ≡ crossing_after a x 0 i) z e;
      }

  module _ (q row before : ℕ) (found : Crossing) (v : Finding a x n q row before found) where
    -- all are passed
    pub finding_ends : n ≤ 256 * q → (complete Paired a 0 (count a) ≡ true) × (found ≡ span_among (words_for Paired a) (count a) x)
    unfolding span_among
    finding_ends h =
        let z : min (256 * q) n ≡ count a = omega (arith, counted) in
        (subst (λ (i : ℕ). complete Paired a 0 i ≡ true) z v.known, subst (λ (i : ℕ). found ≡ crossing_after a x 0 i) z v.is_found)

    -- quarter q has m records
    module _ (h : 256 * q < n) (m : ℕ) (em : m ≡ min 256 (n - 256 * q)) where
      here : min (256 * q) n ≡ 256 * q
      here = omega arith

      pub finding_asks : Walkable a.slots a.rows nr (256 * q) m row
      finding_asks = record {
        some = omega arith;
        few = omega arith;
        room = omega (arith, room);
        low = omega (arith, room);
        rise = rise;
        passed = λ i l. omega (arith, v.passed i l);
      }

      pub finding_found : found ≡ crossing_after a x 0 (256 * q)
      finding_found = subst (λ (i : ℕ). found ≡ crossing_after a x 0 i) here v.is_found

      both : complete Paired a 0 (256 * q + m) ≡ complete Paired a (256 * q) m
      both =
          let z : 0 + 256 * q ≡ 256 * q = omega arith in
          known_parts a 0 (256 * q) m
          ∙ rw (subst (λ (i : ℕ). complete Paired a 0 i ≡ true) here v.known) (ap (λ (i : ℕ). complete Paired a i m) z)

      module _ (span : List ℕ) (step : Option Sums) (t : Totalled a (256 * q) m false span step) where
        pub finding_lacks : step ≡ None → complete Paired a 0 (count a) ≡ false
        finding_lacks e =
            all_more (λ i. has (lookup_at Paired a i)) 0 (256 * q + m) (count a) (both ∙ totalled_lack a (256 * q) m false span step t e) (omega (arith, counted))

        module _ (u : Sums) (e : step ≡ Some u) where
          total : Totals a (256 * q) m u
          total = totalled_next a (256 * q) m false span step t u e

          -- no sum wraps
          pub finding_low : before + u.spans < 2 ^ 64
          finding_low = omega (arith, v.before_low, total.spans_low)

          pub finding_quarter : Quarter a nr q m row before u.spans
          finding_quarter = record {
            ready = finding_asks;
            few = omega arith;
            known = total.known;
            is_before = v.is_before h;
            is_total = total.is_spans;
            counted = omega (arith, counted);
          }

          pub finding_next : (found' : Crossing) (before' : ℕ) → found' ≡ crossing_after a x 0 (256 * q + m) → before' ≡ cond (eqb (q % 4) 3) 0 (before + u.spans)
              → Finding a x n (q + 1) u.row before' found'
          finding_next found' before' ef eb =
              let z : 256 * q + m ≡ min (256 * (q + 1)) n = omega arith in
              record {
                inside = omega arith;
                known = subst (λ (i : ℕ). complete Paired a 0 i ≡ true) z (both ∙ total.known);
                passed = λ i l. omega (arith, total.passed i l);
                is_before = λ l. eb ∙ next_before a q before u.spans (v.is_before h) (total.is_spans ∙ ap (spans_after Paired a (256 * q)) (full l));
                before_low = omega (arith, eb, next_low q before u.spans v.before_low (omega (arith, total.spans_low)));
                is_found = subst (λ (i : ℕ). found' ≡ crossing_after a x 0 i) z ef;
              }
            where
              full : 256 * (q + 1) < n → m ≡ 256
              full l = omega arith

-- ---- what the call answers

module _ (a : Areas) (x : ℕ) where
  -- 1 or 6
  pub refused_first : (r : Refusal) → number_of r ≡ first_refusal Paired a → refused_by (number_of r) ≡ span_at a x
  unfolding span_at whole_refusal unless_refused
  refused_first r e = go (number_of r) e (number_some r)
    where
      go : (n : ℕ) → n ≡ first_refusal Paired a → (n ≡ 0 → ⊥) → refused_by n ≡ span_at a x
      go zero q h = absurd (h refl)
      go (suc n) q h = rw (← q) refl

  module _ (e : 0 ≡ first_refusal Paired a) where
    pub refused_17 : complete Paired a 0 (count a) ≡ false → refused_by 17 ≡ span_at a x
    unfolding span_at whole_refusal unless_refused
    refused_17 l = rw (← e, l) refl

    -- 21 or the crossing
    pub answered : (r : Crossing) → (complete Paired a 0 (count a) ≡ true) × (r ≡ span_among (words_for Paired a) (count a) x) → r ≡ span_at a x
    unfolding span_at whole_refusal unless_refused
    answered r v = v.1 ∙ rw (← e, v.0) refl
