-- A good list ends its three areas below 2^64, so that a published length fits its eight bytes.
-- Every record has 8 bytes or more, and one with a row 2,048 or more of bodies or of spans.
use Prim.Native.Nat.{ℕ, suc, ◌+◌, ◌*◌, ◌/◌, ◌≤◌}
use mathlib.Core.Path.{◌≡◌, refl, sym, ◌∙◌}
use mathlib.Core.Logic.{◌⊎◌, inl, inr}
use mathlib.Core.Bool.{true, false, cond, true≢false}
use mathlib.Core.List.{List, [], ◌∷◌, ◌++◌}
use native.Mathlib.Omega.{arith}
use lib.Dec.{leb}
use lib.ListN.{length}
use borrow.Author.Tests.{leb-true}
use Rattle.loc_leaf.specs.declared.Kind.{Kind}
use Rattle.loc_leaf.specs.declared.Kind.TheVariants.{Paired, Single}
use Rattle.loc_leaf.specs.Slot.{slot, stored_as_zero, needs_row}
use Rattle.loc_leaf.specs.Rows.{row}
use Rattle.loc_leaf.proofs.Booleans.{is?}
use Rattle.loc_leaf.proofs.ValueLaws.{needs_row_lem}
use Rattle.loc_calls.specs.Table.{Entry, value_of}
use Rattle.loc_calls.specs.Stores.{gather, row_of}
use Rattle.loc_calls.proofs.Gathered.{AllValid}
use Rattle.loc_calls.proofs.Chains.{lens, spans, Good}
use Rattle.loc_calls.proofs.Appending.{whole_ends, AllBelow}

-- ---- records

each_8 : (k : Kind) (E : List Entry) → AllValid k E → 8 * length E ≤ lens E
unfolding AllValid lens value_of
each_8 k [] v = omega arith
each_8 k (e ∷ E) v = omega (arith, v.0.value.some, each_8 k E v.1)

-- ---- rows

-- 256 strides, or 256 spans
zero_2048 : (k : Kind) (e : Entry) → stored_as_zero k (value_of e) ≡ true → 2048 ≤ e.len + 8 * e.spans
unfolding stored_as_zero value_of
zero_2048 Paired e t = go (is? (leb 256 (e.len / 8))) (is? (leb 256 e.spans))
  where
    go : (leb 256 (e.len / 8) ≡ true) ⊎ (leb 256 (e.len / 8) ≡ false) → (leb 256 e.spans ≡ true) ⊎ (leb 256 e.spans ≡ false) → 2048 ≤ e.len + 8 * e.spans
    go (inl p) q = omega (arith, leb-true 256 (e.len / 8) p)
    go (inr p) (inl q) = omega (arith, leb-true 256 e.spans q)
    go (inr p) (inr q) = absurd (true≢false (sym t ∙ rw (p, q) refl))
zero_2048 Single e t = omega (arith, leb-true 65536 (e.len / 8) t)

each_row_2048 : (k : Kind) (n : ℕ) (E : List Entry) → AllValid k E → 2048 * length (gather (row_of k) n E) ≤ lens E + 8 * spans E
unfolding gather row_of AllValid lens spans
each_row_2048 k n [] v = omega arith
each_row_2048 k n (e ∷ E) v = go (each_row_2048 k (suc n) E v.1) (is? (needs_row k (slot k (value_of e))))
  where
    rest : ℕ
    rest = length (gather (row_of k) (suc n) E)

    go : 2048 * rest ≤ lens E + 8 * spans E → (needs_row k (slot k (value_of e)) ≡ true) ⊎ (needs_row k (slot k (value_of e)) ≡ false)
        → 2048 * length (cond (needs_row k (slot k (value_of e))) (row k (suc n) (value_of e) ∷ []) [] ++ gather (row_of k) (suc n) E) ≤ e.len + lens E + 8 * (e.spans + spans E)
    go ih (inl t) = rw t (omega (arith, zero_2048 k e (sym (needs_row_lem k (value_of e) v.0.value) ∙ t)))
    go ih (inr t) = rw t (omega arith)

-- ---- the three ends

pub good_below : (k : Kind) (E : List Entry) → AllValid k E → Good E → AllBelow (whole_ends k E)
unfolding whole_ends
good_below Paired E v g = record {
  slots = omega (arith, each_8 Paired E v, g.body);
  rows = omega (arith, each_row_2048 Paired 0 E v, g.body, g.span);
  checkpoints = omega (arith, each_8 Paired E v, g.body);
}
good_below Single E v g = record {
  slots = omega (arith, each_8 Single E v, g.body);
  rows = omega (arith, each_row_2048 Single 0 E v, g.body, g.span);
  checkpoints = omega (arith, each_8 Single E v, g.body);
}
