-- Where the list ends and what carries on from there, in the form in which the code meets them.
-- The last window's records are those from the first record past its begin up to the count.
use Prim.Native.Nat.{ℕ, ◌+◌, ◌-◌, ◌*◌, ◌^◌, ◌≤◌, ◌<◌, min}
use mathlib.Core.Path.{◌≡◌, refl, sym, ap, ◌∙◌}
use mathlib.Core.Bool.{Bool, true, false, not}
use native.Mathlib.Nat.{le_refl, min_comm}
use native.Mathlib.Omega.{arith}
use lib.ListN.{length}
use Rattle.std.specs.Prelude.{Ok, Err}
use borrow.Author.Tests.{eq-eqb, ne_eqb}
use Rattle.loc_leaf.specs.declared.Kind.{Kind}
use Rattle.loc_leaf.specs.declared.Kind.TheVariants.{Paired, Single}
use Rattle.loc_leaf.specs.Bytes.{Bytes}
use Rattle.loc_leaf.specs.declared.refusal.Refusal.{Refusal}
use Rattle.loc_leaf.specs.declared.refusal.Refusal.TheVariants.{RowMissing}
use Rattle.loc_leaf.specs.Answers.{refuse, number_of}
use Rattle.loc_leaf.specs.Area.{fill}
use Rattle.loc_leaf.specs.Kind.{row_width, window_of}
use Rattle.loc_leaf.proofs.AreaLaws.{counted_le}
use Rattle.loc_leaf.proofs.Refusals.{or_else_first, number_some}
use Rattle.loc_calls.specs.Areas.{Areas, areas, count}
use Rattle.loc_calls.specs.Table.{Entry, saturated, start_refusal}
use Rattle.loc_calls.specs.Reading.{complete, before, window_end, body_read, span_read, end_read}
use Rattle.loc_calls.specs.Calls.{first_refusal}
use Rattle.loc_calls.proofs.Ends.{last_unread}
use Rattle.loc_store.proofs.SettledLaws.{accepted_sized, accepted_ascends}
use Rattle.loc_total.specs.declared.Total.{Total}
use Rattle.loc_end.specs.declared.start.End.{End}
use Rattle.loc_total.specs.Total.{Walkable, Totalled}
use Rattle.loc_end.specs.Start.{span_to, Ends}

-- ---- the spans

module _ (k : Kind) (c : Bytes) (w n r : ℕ) where
  pub span_paired : (x : ℕ) → k ≡ Paired → ((s t : Bytes) → 16 ≤ 16 → x ≡ window_end Paired (areas s t c) 8 w) → r ≡ min (x + 8 * n) (2 ^ 64 - 1) → (s t : Bytes) → r ≡ span_to k (areas s t c) w n
  unfolding span_to
  span_paired x e h q s t = rw (e, ← h s t (le_refl 16)) (q ∙ min_comm (x + 8 * n) (2 ^ 64 - 1))

  pub span_single : k ≡ Single → r ≡ 16 → (s t : Bytes) → r ≡ span_to k (areas s t c) w n
  unfolding span_to
  span_single e q s t = rw e q

-- ---- the last window

module _ (k : Kind) (a : Areas) (n w f m : ℕ) (ok : first_refusal k a ≡ 0) (en : n ≡ fill 2 a.slots) (ew : w ≡ window_of n) (ef : f ≡ 1024 * w) (em : m ≡ n - f) where
  pub slots_hold_lem : 16 + 2 * n ≤ length a.slots
  unfolding fill
  slots_hold_lem = omega (arith, counted_le a.slots, (accepted_sized k a (sym ok)).slots_hold)

  pub walkable : (nr : ℕ) → length a.slots < 2 ^ 64 → nr ≡ fill (row_width k) a.rows → Walkable k a.slots a.rows nr f m
  walkable nr l e = record {
    few = omega arith;
    room = omega (arith, slots_hold_lem);
    low = omega (arith, slots_hold_lem);
    rise = record { ascend = accepted_ascends k a (sym ok); counted = e };
  }

  window_is : w ≡ window_of (count a)
  unfolding count
  window_is = ew ∙ ap window_of en

  first_is : f ≡ before (count a)
  first_is = ef ∙ ap (λ (i : ℕ). 1024 * i) window_is

  rest_is : m ≡ count a - before (count a)
  rest_is = em ∙ rw (en, first_is) (unfold count in refl)

  unread_is : (b : Bool) → complete k a f m ≡ b → (end_read k a).unread ≡ not b
  unfolding end_read
  unread_is b e = last_unread k a (count a) refl ∙ ap not (rw (first_is, rest_is) at e)

  module _ (t : Total) (v : Totalled k a f m t) where
    pub end_lacks : (t.lacking ≡ 0 → ⊥) → Ends k a (Err RowMissing)
    end_lacks h = record { number = rw (unread_is false (v.lacks h)) refl; ends = tt }

    pub sums_low : (t.strides < 2 ^ 44) × (t.spans < 2 ^ 44)
    sums_low = (omega (arith, v.strides_low), omega (arith, v.spans_low))

    pub end_is : t.lacking ≡ 0 → (x body span : ℕ) → x ≡ window_end k a 0 w → body ≡ min (x + 8 * t.strides) (2 ^ 64 - 1) → span ≡ span_to k a w t.spans → Ends k a (Ok (record { body = body; span = span }))
    unfolding end_read body_read
    end_is z x body span ex eb es = record {
      number = sym (ap (λ (b : Bool). refuse b 17) (unread_is true (v.known z)));
      ends = (eb ∙ min_comm (x + 8 * t.strides) (2 ^ 64 - 1) ∙ rw (ex, v.is_strides z, first_is, rest_is, window_is) refl, es ∙ span_there k refl);
    }
      where
        span_there : (j : Kind) → k ≡ j → span_to k a w t.spans ≡ saturated (span_read k a)
        span_there Paired p = unfold span_to span_read in (rw (p, v.is_spans z, first_is, rest_is, window_is, p) refl)
        span_there Single p = unfold span_to span_read in (rw p refl)

-- ---- a batch that carries on

module _ (k : Kind) (a : Areas) (e : Entry) where
  pub start_17 : (r : Refusal) → number_of r ≡ refuse (end_read k a).unread 17 → number_of r ≡ start_refusal (end_read k a) e
  unfolding start_refusal
  start_17 r q = q ∙ sym (or_else_first (refuse (end_read k a).unread 17) _ (λ z. number_some r (q ∙ z)))

  module _ (end : End) (q : Ends k a (Ok end)) (x y : ℕ) (ex : e.start ≡ x) (ey : e.span_start ≡ y) where
    pub start_23 : (x ≡ end.body → ⊥) → 23 ≡ start_refusal (end_read k a) e
    unfolding start_refusal
    start_23 h = rw (← q.number, ex, ← q.ends.0, ne_eqb x end.body h) refl

    module _ (h : x ≡ end.body) where
      pub start_24 : (y ≡ end.span → ⊥) → 24 ≡ start_refusal (end_read k a) e
      unfolding start_refusal
      start_24 g = rw (← q.number, ex, ey, ← q.ends.0, eq-eqb x end.body h, ← q.ends.1, ne_eqb y end.span g) refl

      pub start_0 : y ≡ end.span → 0 ≡ start_refusal (end_read k a) e
      unfolding start_refusal
      start_0 g = rw (← q.number, ex, ey, ← q.ends.0, eq-eqb x end.body h, ← q.ends.1, eq-eqb y end.span g) refl
