-- What the slots of records add up to, one record more at a time.
-- A slot says less than 2 ^ 16 of strides and of spans.
use Prim.Native.Nat.{ℕ, ◌+◌, ◌*◌, ◌^◌, ◌≤◌, ◌<◌}
use mathlib.Core.Path.{◌≡◌, refl, sym, ap, ◌∙◌, subst}
use mathlib.Core.Bool.{Bool, true, false, cond}
use mathlib.Core.List.{[], ◌∷◌}
use native.Mathlib.Nat.{le_antisymm}
use native.Mathlib.Omega.{arith}
use mir.Val.{bool_byte}
use Rattle.loc_leaf.specs.declared.Kind.{Kind}
use Rattle.loc_leaf.specs.declared.Kind.TheVariants.{Paired, Single}
use Rattle.loc_leaf.specs.declared.Value.{Value}
use Rattle.loc_leaf.specs.Bytes.{Bytes, byte}
use Rattle.loc_leaf.specs.Slot.{needs_row, inline}
use Rattle.loc_leaf.specs.Block.{slot_bytes, row_bit}
use Rattle.loc_total.specs.declared.Total.{Total}
use Rattle.loc_total.specs.Slots.{SlotTotal}
use Rattle.loc_total.proofs.SumLaws.{sum_next, bits_low}

abbrev pub total_of : ℕ → ℕ → ℕ → Total
total_of x y z = record { strides = x; spans = y; lacking = z }

pub inline_low : (k : Kind) (x y : ℕ) → x < 256 → y < 256 → ((inline k (x ∷ y ∷ [])).strides < 2 ^ 16) × ((inline k (x ∷ y ∷ [])).spans < 2 ^ 16)
unfolding inline
inline_low Paired x y hx hy = (omega arith, omega arith)
inline_low Single x y hx hy = (omega arith, omega arith)

bit : (q : Bool) → bool_byte q ≡ cond q 1 0
bit true = refl
bit false = refl

pub bit_low : (q : Bool) → bool_byte q ≤ 1
bit_low true = omega arith
bit_low false = omega arith

module _ (k : Kind) (s : Bytes) (i : ℕ) (t : Total) (p : SlotTotal k s i t) where
  -- the sums are small
  pub slots_small : i ≤ 1024 → (t.strides < 2 ^ 27) × (t.spans < 2 ^ 27) × (t.lacking ≤ 1024)
  slots_small h = (omega (arith, p.strides_low), omega (arith, p.spans_low), omega (arith, p.is_lacking, bits_low k s 0 i))

  -- one record more
  pub slot_next : (v : Value) (q : Bool) (b : ℕ) → byte (2 * i) s < 256 → byte (2 * i + 1) s < 256 → v ≡ inline k (slot_bytes s i) → q ≡ needs_row k (slot_bytes s i) → b ≡ bool_byte q
      → SlotTotal k s (i + 1) (total_of (t.strides + v.strides) (t.spans + v.spans) (t.lacking + b))
  slot_next v q b hx hy ev eq eb =
      let vx : v.strides ≡ (inline k (slot_bytes s i)).strides = ap (λ (u : Value). u.strides) ev in
      let vy : v.spans ≡ (inline k (slot_bytes s i)).spans = ap (λ (u : Value). u.spans) ev in
      let l = inline_low k (byte (2 * i) s) (byte (2 * i + 1) s) hx hy in
      record {
        is_strides = (λ j. p.is_strides j + vx j) ∙ sym (sum_next (λ n. (inline k (slot_bytes s n)).strides) i);
        is_spans = (λ j. p.is_spans j + vy j) ∙ sym (sum_next (λ n. (inline k (slot_bytes s n)).spans) i);
        is_lacking = (λ j. p.is_lacking j + (eb ∙ bit q ∙ ap (λ (u : Bool). cond u 1 0) eq) j) ∙ sym (sum_next (row_bit k s) i);
        strides_low = omega (arith, p.strides_low, l.0);
        spans_low = omega (arith, p.spans_low, l.1);
      }

  -- the loop has ended
  pub slots_end : (m : ℕ) → i ≤ m → m ≤ i → SlotTotal k s m t
  slots_end m h g = subst (λ (n : ℕ). SlotTotal k s n t) (le_antisymm h g) p
