-- One record of a batch in the form in which the code meets it: a law for each way through a function.
-- The results of calls and the tests are premises.
use Prim.Native.Nat.{ℕ, ◌+◌, ◌<◌}
use mathlib.Core.Path.{◌≡◌}
use mathlib.Core.Bool.{Bool, true, false, ◌&&◌}
use mathlib.Core.List.{[], ◌∷◌}
use native.Mathlib.Omega.{arith}
use lib.Dec.{eqb}
use lib.ListN.{length}
use borrow.Author.Tests.{eqb-true, not-false}
use Rattle.loc_leaf.specs.declared.Kind.{Kind}
use Rattle.loc_leaf.specs.declared.Kind.TheVariants.{Paired, Single}
use Rattle.loc_leaf.proofs.Booleans.{both_left, both_right}
use Rattle.loc_calls.specs.Table.{Batch, Entry, uneven, breaks, entry_refusal}
use Rattle.loc_batch.specs.Lists.{Held}

-- ---- lists of one length

pub starts_even : (k : Kind) (b : Batch) → uneven k b ≡ false → length b.starts ≡ length b.lens
unfolding uneven
starts_even Paired b e = eqb-true _ _ (both_left _ _ (both_left _ _ (not-false _ e)))
starts_even Single b e = eqb-true _ _ (not-false _ e)

pub spans_even : (b : Batch) → uneven Paired b ≡ false → (length b.span_starts ≡ length b.lens) × (length b.span_counts ≡ length b.lens)
unfolding uneven
spans_even b e = (eqb-true _ _ (both_right starts spans (both_left (starts && spans) counts all)), eqb-true _ _ (both_right (starts && spans) counts all))
  where
    starts : Bool
    starts = eqb (length b.starts) (length b.lens)

    spans : Bool
    spans = eqb (length b.span_starts) (length b.lens)

    counts : Bool
    counts = eqb (length b.span_counts) (length b.lens)

    all : (starts && spans && counts) ≡ true
    all = not-false (starts && spans && counts) e

-- a record that they hold is in each of them that is read
module _ (k : Kind) (b : Batch) (i : ℕ) (h : Held k b (i + 1)) where
  pub in_starts : i < length b.starts
  in_starts = omega (arith, h.inside, starts_even k b h.even)

  pub in_span_starts : k ≡ Paired → i < length b.span_starts
  in_span_starts q = omega (arith, h.inside, (spans_even b (rw q at h.even)).0)

  pub in_span_counts : k ≡ Paired → i < length b.span_counts
  in_span_counts q = omega (arith, h.inside, (spans_even b (rw q at h.even)).1)

-- a record's own refusal comes before the break with the next
pub own_first : (k : Kind) (e next : Entry) (own : ℕ) → own ≡ entry_refusal k e [] → (own ≡ 0 → ⊥) → own ≡ entry_refusal k e (next ∷ [])
unfolding entry_refusal breaks
own_first k e next own q h = grind arith
