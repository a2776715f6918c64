-- A slot looked at by its two bytes, and the fields of a checkpoint where they stand.
-- The results of a function's calls and its tests are premises.
use Rattle.std.specs.Prelude.{Option, Some, None}
use Rattle.std.specs.Bool.{then_some}
use Prim.Native.Nat.{ℕ, ◌+◌, ◌-◌, ◌*◌, ◌≤◌}
use mathlib.Core.Path.{◌≡◌, refl, sym, ap, ◌∙◌}
use mathlib.Core.Bool.{Bool, true, false, cond, not}
use mathlib.Core.List.{[], ◌∷◌}
use native.Mathlib.Omega.{arith}
use lib.Dec.{eqb}
use lib.ListN.{take, drop}
use lib.Seq.{drop-drop}
use borrow.Author.Tests.{eq-eqb, ne_eqb}
use Rattle.loc_leaf.specs.declared.Kind.{Kind}
use Rattle.loc_leaf.specs.declared.Kind.TheVariants.{Paired, Single}
use Rattle.loc_leaf.specs.declared.Value.{Value}
use Rattle.loc_leaf.specs.Bytes.{Bytes, byte, number, number_at}
use Rattle.loc_leaf.specs.Kind.{checkpoint_width}
use Rattle.loc_leaf.specs.Slot.{needs_row, inline}
use Rattle.loc_leaf.proofs.RowLaws.{field_in}
use Rattle.loc_calls.specs.Reading.{checkpoint_at}
use Rattle.loc_calls.specs.Audit.{row_fits, row_wanted}
use Rattle.loc_audit.specs.declared.Ends.{Ends}
use Rattle.loc_audit.specs.Pass.{slot_says, checkpoint_is}

-- ---- the slot

needs_bytes : (k : Kind) (s : Bytes) → needs_row k (byte 0 s ∷ byte 1 s ∷ []) ≡ needs_row k s
unfolding needs_row
needs_bytes Paired s = refl
needs_bytes Single s = refl

inline_bytes : (k : Kind) (s : Bytes) → inline k (byte 0 s ∷ byte 1 s ∷ []) ≡ inline k s
unfolding inline
inline_bytes Paired s = refl
inline_bytes Single s = refl

fits_bytes : (k : Kind) (s : Bytes) (v : Value) → row_fits k (byte 0 s ∷ byte 1 s ∷ []) v ≡ row_fits k s v
unfolding row_fits
fits_bytes Paired s v = refl
fits_bytes Single s v = refl

-- what it says, with its row or without
module _ (k : Kind) (s : Bytes) (own : Option Value) (b : Bool) where
  pub says_row : (v : Value) → own ≡ Some v → b ≡ row_wanted k (byte 0 s ∷ byte 1 s ∷ []) v → then_some b v ≡ slot_says k s own
  unfolding slot_says row_wanted
  says_row v h e = rw (h, e, needs_bytes k s, fits_bytes k s v) (by (row_wanted k s v))
    where
      by : (x : Bool) → then_some x v ≡ cond x (Some v) None
      by true = refl
      by false = refl

  pub says_inline : own ≡ None → b ≡ needs_row k (byte 0 s ∷ byte 1 s ∷ []) → (v : Value) → v ≡ inline k (byte 0 s ∷ byte 1 s ∷ []) → then_some (not b) v ≡ slot_says k s own
  unfolding slot_says
  says_inline h e v ev = rw (h, e, ev, needs_bytes k s, inline_bytes k s) (by (needs_row k s))
    where
      by : (x : Bool) → then_some (not x) (inline k s) ≡ cond x None (Some (inline k s))
      by true = refl
      by false = refl

-- ---- checkpoints

-- a field of checkpoint w where it stands
field_there : (k : Kind) (xs : Bytes) (w at width place : ℕ) → width ≡ checkpoint_width k → at + 8 ≤ width → place ≡ 16 + width * (w - 1) + at
    → number_at 8 at (checkpoint_at k xs w) ≡ number_at 8 place xs
unfolding checkpoint_at number_at
field_there k xs w at width place e h p =
    rw (← e, p)
    (field_in 8 at width (drop (16 + width * (w - 1)) xs) h ∙ ap (λ (x : Bytes). number (take 8 x)) (drop-drop at (16 + width * (w - 1)) xs))

module _ (k : Kind) (xs : Bytes) (w : ℕ) (e : Ends) where
  module _ (h : k ≡ Paired) (body : ℕ) (eb : body ≡ number_at 8 (16 + 16 * (w - 1)) xs) where
    pub paired_body : (body ≡ e.body → ⊥) → eqb body e.body ≡ checkpoint_is k xs w e
    unfolding checkpoint_is
    paired_body g = rw (h, first, ne_eqb body e.body g) refl
      where
        first : number_at 8 0 (checkpoint_at Paired xs w) ≡ body
        first = field_there Paired xs w 0 16 (16 + 16 * (w - 1)) refl (omega arith) (omega arith) ∙ sym eb

    pub paired_span : body ≡ e.body → (span : ℕ) → span ≡ number_at 8 (16 + 16 * (w - 1) + 8) xs → eqb span e.span ≡ checkpoint_is k xs w e
    unfolding checkpoint_is
    paired_span g span es = rw (h, first, eq-eqb body e.body g, second) refl
      where
        first : number_at 8 0 (checkpoint_at Paired xs w) ≡ body
        first = field_there Paired xs w 0 16 (16 + 16 * (w - 1)) refl (omega arith) (omega arith) ∙ sym eb

        second : number_at 8 8 (checkpoint_at Paired xs w) ≡ span
        second = field_there Paired xs w 8 16 _ refl (omega arith) refl ∙ sym es

  pub single_body : k ≡ Single → (body : ℕ) → body ≡ number_at 8 (16 + 8 * (w - 1)) xs → eqb body e.body ≡ checkpoint_is k xs w e
  unfolding checkpoint_is
  single_body h body eb = rw (h, field_there Single xs w 0 8 (16 + 8 * (w - 1)) refl (omega arith) (omega arith) ∙ sym eb) refl
