-- Strides, slots, the checkpoint rule and the cut rule, in the form in which the code meets them.
-- A law for each way through a function: the results of its calls and its tests are premises.
use Prim.Native.Nat.{ℕ, ◌-◌, ◌/◌, ◌%◌, ◌^◌, ◌≤◌, ◌<◌}
use mathlib.Core.Path.{◌≡◌, refl, ◌∙◌}
use mathlib.Core.Bool.{Bool, true, false, not}
use mathlib.Core.List.{[], ◌∷◌}
use native.Mathlib.Omega.{arith}
use lib.Dec.{leb, eqb}
use borrow.Author.Tests.{lt-ltb, le-ltb, le-leb, lt-leb, eq-eqb, ne_eqb, leb-false, eqb-true, eqb-false, not-false}
use Rattle.loc_leaf.specs.declared.Kind.{Kind}
use Rattle.loc_leaf.specs.declared.Kind.TheVariants.{Paired, Single}
use Rattle.loc_leaf.specs.declared.Value.{Value}
use Rattle.loc_leaf.specs.Bytes.{Bytes, byte, number_at}
use Rattle.loc_leaf.specs.Answers.{refuse, ◌or_else◌}
use Rattle.loc_leaf.specs.Slot.{strides_refusal, needs_row, slot_at}
use Rattle.loc_leaf.specs.Rows.{row_number, row_value}
use Rattle.loc_leaf.specs.Cut.{matches, cuts, cut_for}
use Rattle.loc_leaf.proofs.Refusals.{or_else_left, or_else_right, refuse_zero}

-- ---- strides

-- what 22, 9 and 10 leave of a length: whole strides, one or more, of 32 bits
abbrev pub WholeStrides : ℕ → Type 0
WholeStrides len = (len % 8 ≡ 0) × (0 < len / 8) × (len / 8 < 2 ^ 32)

module _ (len : ℕ) where
  pub strides_fit : strides_refusal len ≡ 0 → WholeStrides len
  unfolding strides_refusal
  strides_fit h = (whole, omega (arith, whole, some), leb-false (2 ^ 32) (len / 8) (refuse_zero (leb (2 ^ 32) (len / 8)) 9 (or_else_right nine ten nine_or_ten)))
    where
      nine : ℕ
      nine = refuse (not (eqb (len % 8) 0)) 9

      ten : ℕ
      ten = refuse (leb (2 ^ 32) (len / 8)) 10

      some : len ≡ 0 → ⊥
      some = eqb-false len 0 (refuse_zero (eqb len 0) 21 (or_else_left (refuse (eqb len 0) 22) (nine or_else ten) h))

      nine_or_ten : (nine or_else ten) ≡ 0
      nine_or_ten = or_else_right (refuse (eqb len 0) 22) (nine or_else ten) h

      whole : len % 8 ≡ 0
      whole = eqb-true (len % 8) 0 (not-false (eqb (len % 8) 0) (refuse_zero (not (eqb (len % 8) 0)) 8 (or_else_left nine ten nine_or_ten)))

  pub strides_good : WholeStrides len → strides_refusal len ≡ 0
  unfolding strides_refusal
  strides_good h = rw (ne_eqb len 0 (λ z. omega (arith, h.1)), eq-eqb (len % 8) 0 h.0, lt-leb (2 ^ 32) (len / 8) h.2) refl

-- ---- the cut rule

-- a match looks at a slot's two bytes alone
matches_bytes : (k : Kind) (s : Bytes) (v : Value) → matches k (byte 0 s ∷ byte 1 s ∷ []) v ≡ matches k s v
unfolding matches needs_row
matches_bytes Paired s v = refl
matches_bytes Single s v = refl

module _ (k : Kind) (slots row : Bytes) (n last number : ℕ) (e : number ≡ number_at 8 0 row) where
  pub cut_low : number ≤ last → n ≡ cut_for k slots n last row
  unfolding cut_for cuts row_number
  cut_low h = rw (← e, le-ltb last number h) refl

  pub cut_high : last < number → n < number → n ≡ cut_for k slots n last row
  unfolding cut_for cuts row_number
  cut_high h g = rw (← e, lt-ltb last number h, lt-leb number n g) refl

  module _ (h : last < number) (g : number ≤ n) (v : Value) (ev : v ≡ row_value k row) (s : Bytes) (es : s ≡ byte 0 (slot_at slots number) ∷ byte 1 (slot_at slots number) ∷ [])
      (m : Bool) (em : m ≡ matches k (byte 0 s ∷ byte 1 s ∷ []) v) where
    matched : m ≡ matches k (slot_at slots number) (row_value k row)
    matched = em ∙ rw (ev, es) (matches_bytes k (slot_at slots number) (row_value k row))

    pub cut_before : m ≡ true → number - 1 ≡ cut_for k slots n last row
    unfolding cut_for cuts row_number
    cut_before t = rw (← e, lt-ltb last number h, le-leb number n g, ← matched, t) refl

    pub cut_unmatched : m ≡ false → n ≡ cut_for k slots n last row
    unfolding cut_for cuts row_number
    cut_unmatched t = rw (← e, lt-ltb last number h, le-leb number n g, ← matched, t) refl
