-- Rows from a place on: what one row more changes, and that rows which are numbered otherwise change nothing.
-- At most one record's lookup changes, since the rows ascend.
use Rattle.loc_leaf.specs.declared.Value.{Value}
use Rattle.std.specs.Prelude.{Option, Some, None}
use Prim.Native.Nat.{ℕ, zero, suc, ◌+◌, ◌-◌, ◌≤◌, ◌<◌}
use mathlib.Core.Path.{◌≡◌, refl, sym, ap, ◌∙◌}
use mathlib.Core.Logic.{◌⊎◌, inl, inr}
use mathlib.Core.Bool.{Bool, true, false, cond, true≢false}
use mathlib.Core.List.{List, [], ◌∷◌}
use native.Mathlib.Nat.{add-zero}
use native.Mathlib.Numerals.{add-one}
use native.Mathlib.Omega.{arith}
use lib.ListN.{length, get_or, drop}
use lib.Seq.{drop-cons, drop-length}
use borrow.Author.Tests.{eq-eqb, ne_eqb}
use Rattle.loc_leaf.specs.declared.Kind.{Kind}
use Rattle.loc_leaf.specs.Bytes.{Bytes}
use Rattle.loc_leaf.specs.Slot.{needs_row, inline}
use Rattle.loc_leaf.specs.Rows.{row_list, row_number, row_value, row_for, has_row, lookup, slot_value, ascending, number_in}
use Rattle.loc_leaf.proofs.Booleans.{is?}
use Rattle.loc_leaf.proofs.RowLaws.{rising}
use Rattle.loc_leaf.specs.Block.{slot_bytes}
use Rattle.loc_total.specs.Total.{lookup_from}

-- ---- the row that is numbered id

module _ (k : Kind) (rs : List Bytes) (id : ℕ) where
  abbrev from : ℕ → Option Value
  from p = lookup k id (drop p rs)

  place : (p : ℕ) → p < length rs → drop p rs ≡ get_or rs p [] ∷ drop (p + 1) rs
  place p h = drop-cons rs p [] h ∙ ap (λ (n : ℕ). get_or rs p [] ∷ drop n rs) (sym (add-one p))

  -- it is the row at the place, or another
  row_here : (p : ℕ) → p < length rs → number_in rs p ≡ id → from p ≡ Some (row_value k (get_or rs p []))
  unfolding lookup has_row row_for number_in
  row_here p h e = ap (lookup k id) (place p h) ∙ rw (eq-eqb (row_number (get_or rs p [])) id e) refl

  row_other : (p : ℕ) → p < length rs → (number_in rs p ≡ id → ⊥) → from p ≡ from (p + 1)
  unfolding lookup has_row row_for number_in
  row_other p h d = ap (lookup k id) (place p h) ∙ rw (ne_eqb (row_number (get_or rs p [])) id d) refl

  -- none of n rows is
  rows_other : (n p : ℕ) → p + n ≤ length rs → ((q : ℕ) → p ≤ q → q < p + n → number_in rs q ≡ id → ⊥) → from p ≡ from (p + n)
  rows_other zero p h d = ap from (sym (add-zero p))
  rows_other (suc n) p h d =
      let e : p + 1 + n ≡ p + suc n = omega arith in
      row_other p (omega arith) (d p (omega arith) (omega arith)) ∙ rows_other n (p + 1) (omega arith) (λ q g l. d q (omega arith) (omega arith)) ∙ ap from e

  none_past : from (length rs) ≡ None
  unfolding lookup has_row
  none_past = ap (lookup k id) (drop-length rs)

  -- none behind a row that is numbered id
  none_behind : ascending 0 rs ≡ true → (p : ℕ) → p < length rs → number_in rs p ≡ id → from (p + 1) ≡ None
  none_behind a p h e =
      let all : p + 1 + (length rs - (p + 1)) ≡ length rs = omega arith in
      rows_other (length rs - (p + 1)) (p + 1) (omega arith) (λ q g l c. omega (arith, rising 0 rs a p q (omega arith) (omega arith))) ∙ ap from all ∙ none_past

-- ---- record i

module _ (k : Kind) (f : ℕ) (bytes rows : Bytes) (i : ℕ) where
  abbrev rs : List Bytes
  rs = row_list k rows

  -- by its row, or by its slot
  by_row : (p : ℕ) → needs_row k (slot_bytes bytes i) ≡ true → lookup_from k f bytes rows p i ≡ lookup k (f + suc i) (drop p rs)
  unfolding lookup_from slot_value
  by_row p t = ap (λ (b : Bool). cond b (lookup k (f + suc i) (drop p rs)) (Some (inline k (slot_bytes bytes i)))) t

  by_slot : (p : ℕ) → needs_row k (slot_bytes bytes i) ≡ false → lookup_from k f bytes rows p i ≡ Some (inline k (slot_bytes bytes i))
  unfolding lookup_from slot_value
  by_slot p t = ap (λ (b : Bool). cond b (lookup k (f + suc i) (drop p rs)) (Some (inline k (slot_bytes bytes i)))) t

  -- rows that are numbered otherwise, or that it does not need
  pub from_other : (n p : ℕ) → p + n ≤ length rs → ((q : ℕ) → p ≤ q → q < p + n → number_in rs q ≡ f + suc i → needs_row k (slot_bytes bytes i) ≡ false)
      → lookup_from k f bytes rows p i ≡ lookup_from k f bytes rows (p + n) i
  from_other n p h d = go (is? (needs_row k (slot_bytes bytes i)))
    where
      go : (needs_row k (slot_bytes bytes i) ≡ true) ⊎ (needs_row k (slot_bytes bytes i) ≡ false) → lookup_from k f bytes rows p i ≡ lookup_from k f bytes rows (p + n) i
      go (inl t) = by_row p t ∙ rows_other k rs (f + suc i) n p h (λ q g l e. true≢false (sym t ∙ d q g l e)) ∙ sym (by_row (p + n) t)
      go (inr t) = by_slot p t ∙ sym (by_slot (p + n) t)

  -- the row that it needs
  pub from_here : (p : ℕ) → p < length rs → number_in rs p ≡ f + suc i → needs_row k (slot_bytes bytes i) ≡ true → lookup_from k f bytes rows p i ≡ Some (row_value k (get_or rs p []))
  from_here p h e t = by_row p t ∙ row_here k rs (f + suc i) p h e

  pub from_behind : ascending 0 rs ≡ true → (p : ℕ) → p < length rs → number_in rs p ≡ f + suc i → needs_row k (slot_bytes bytes i) ≡ true → lookup_from k f bytes rows (p + 1) i ≡ None
  from_behind a p h e t = by_row (p + 1) t ∙ none_behind k rs (f + suc i) a p h e

  -- no row at all
  pub from_past : lookup_from k f bytes rows (length rs) i ≡ cond (needs_row k (slot_bytes bytes i)) None (Some (inline k (slot_bytes bytes i)))
  unfolding lookup_from slot_value
  from_past = ap (λ (l : Option Value). cond (needs_row k (slot_bytes bytes i)) l (Some (inline k (slot_bytes bytes i)))) (none_past k rs (f + suc i))
