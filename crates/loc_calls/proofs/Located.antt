-- An accepted span_at: the address is the span start, eight bytes for each span before it, and the remainder.
-- Said of any words whose span length is eight bytes for each span.
use Prim.Native.Nat.{ℕ, zero, suc, ◌+◌, ◌-◌, ◌*◌, ◌≤◌, ◌<◌}
use mathlib.Core.Path.{◌≡◌, refl}
use mathlib.Core.Bool.{Bool, true, false}
use mathlib.Core.List.{List}
use native.Mathlib.Nat.{suc-ne-zero}
use native.Mathlib.Omega.{arith}
use lib.Dec.{leb, ltb}
use borrow.Author.Tests.{leb-true, ltb-true, le-leb, lt-ltb}
use Rattle.loc_leaf.specs.declared.Kind.TheVariants.{Paired}
use Rattle.loc_leaf.proofs.Booleans.{both_left, both_right}
use Rattle.loc_calls.specs.Areas.{Areas, count}
use Rattle.loc_calls.specs.Reading.{within, words, first_after, words_for}
use Rattle.loc_calls.specs.Calls.{unless_refused, whole_refusal}
use Rattle.loc_calls.specs.SpanAt.{Crossing, span_start, span_length, span_count, holds, refused_by, crossing, span_among, span_at, Located, SpanAtLocates}
use Rattle.loc_calls.proofs.Lowest.{Lowest, lowest}

module _ (f : ℕ → List ℕ) (x : ℕ) where
  -- a range is from the span start up to the span length further on
  module _ (id : ℕ) where
    pub held_range : holds f x id ≡ true → (span_start f id ≤ x) × (x < span_start f id + span_length f id)
    unfolding holds
    held_range h = (
      leb-true (span_start f id) x (both_left (leb (span_start f id) x) (ltb x (span_start f id + span_length f id)) h),
      ltb-true x (span_start f id + span_length f id) (both_right (leb (span_start f id) x) (ltb x (span_start f id + span_length f id)) h),
    )

    pub range_held : span_start f id ≤ x → x < span_start f id + span_length f id → holds f x id ≡ true
    unfolding holds
    range_held l h = rw (le-leb (span_start f id) x l, lt-ltb x (span_start f id + span_length f id) h) refl

  module _ (n : ℕ) (eights : (id : ℕ) → span_length f id ≡ 8 * span_count f id) where
    pub among_located : (span_among f n x).number ≡ 0 → Located f n x (span_among f n x)
    unfolding span_among crossing
    among_located = go (first_after (holds f x) 0 n) (lowest (holds f x) n)
      where
        go : (i : ℕ) → Lowest (holds f x) n i → (crossing f x i).number ≡ 0 → Located f n x (crossing f x i)
        go zero w e = absurd (suc-ne-zero 20 e)
        go (suc i) w e =
            let r = held_range (suc i) (w.holds (omega arith)) in
            record {
              address = omega (arith, r.0);
              remainder = omega arith;
              index = omega (arith, r.0, r.1, eights (suc i));
              counted = (omega arith, w.inside);
              held = w.holds (omega arith);
              lowest = below w;
            }
          where
            below : Lowest (holds f x) n (suc i) → (id : ℕ) → 0 < id → id < suc i → holds f x id ≡ false
            below w zero l h = absurd (omega arith)
            below w (suc j) l h = (w.below j (omega (arith, w.inside))).1 h

-- a reading's words, found or not
pub eight_bytes : (a : Areas) (id : ℕ) → span_length (words_for Paired a) id ≡ 8 * span_count (words_for Paired a) id
unfolding words_for words
eight_bytes a id = go (within (count a) id) refl
  where
    go : (b : Bool) → within (count a) id ≡ b → span_length (words_for Paired a) id ≡ 8 * span_count (words_for Paired a) id
    go true e = rw e refl
    go false e = rw e refl

pub span_at_locates : SpanAtLocates
unfolding SpanAtLocates span_at
span_at_locates a x = go (whole_refusal Paired a)
  where
    given : ℕ → Crossing
    given n = unless_refused n (span_among (words_for Paired a) (count a) x) (refused_by n)

    go : (n : ℕ) → (given n).number ≡ 0 → Located (words_for Paired a) (count a) x (given n)
    go zero e = unfold unless_refused in among_located (words_for Paired a) x (count a) (eight_bytes a) (unfold unless_refused in e)
    go (suc n) e = absurd (suc-ne-zero n (unfold unless_refused in e))
