-- Where a window's bodies and spans begin, in the form in which the code meets it.
-- A checkpoint has both where paired, the bodies' alone where single.
use Prim.Native.Nat.{ℕ, zero, suc, ◌+◌, ◌-◌, ◌*◌, ◌≤◌}
use mathlib.Core.Path.{◌≡◌, refl, sym, ap, ◌∙◌}
use native.Mathlib.Nat.{mul_comm, mul-le-mul_left}
use native.Mathlib.Omega.{arith}
use lib.ListN.{take, drop}
use lib.Seq.{drop-drop}
use Rattle.loc_leaf.specs.declared.Kind.{Kind}
use Rattle.loc_leaf.specs.declared.Kind.TheVariants.{Paired, Single}
use Rattle.loc_leaf.specs.Bytes.{Bytes, number, number_at}
use Rattle.loc_leaf.specs.Kind.{checkpoint_width}
use Rattle.loc_leaf.proofs.RowLaws.{field_in}
use Rattle.loc_calls.specs.Areas.{Areas, areas}
use Rattle.loc_calls.specs.Reading.{checkpoint_at, window_end}

pub end_zero : (k : Kind) (a : Areas) (at w : ℕ) → w ≡ 0 → 16 ≡ window_end k a at w
unfolding window_end
end_zero k a at w e = rw e refl

pub width_low : (width x : ℕ) → width ≤ 16 → width * x ≤ 16 * x
width_low width x h = rw (mul_comm width x, mul_comm 16 x) (mul-le-mul_left x h)

pub end_some : (k : Kind) (s t c : Bytes) (at w width r : ℕ) → (w ≡ 0 → ⊥) → width ≡ checkpoint_width k → r ≡ number_at 8 (16 + width * (w - 1) + at) c
    → at + 8 ≤ checkpoint_width k → r ≡ window_end k (areas s t c) at w
unfolding window_end checkpoint_at number_at
end_some k s t c at zero width r h e q l = absurd (h refl)
end_some k s t c at (suc w) width r h e q l = q ∙ rw e (sym (field_in 8 at (checkpoint_width k) _ l ∙ past))
  where
    past : number_at 8 at (drop (16 + checkpoint_width k * (suc w - 1)) c) ≡ number_at 8 (16 + checkpoint_width k * (suc w - 1) + at) c
    past = ap (λ (x : Bytes). number (take 8 x)) (drop-drop at (16 + checkpoint_width k * (suc w - 1)) c)

module _ (k : Kind) (a : Areas) (w w' r : ℕ) where
  pub end_of_bodies : (8 ≤ checkpoint_width k → r ≡ window_end k a 0 w) → w ≡ w' → r ≡ window_end k a 0 w'
  end_of_bodies f e = f (wide k) ∙ ap (window_end k a 0) e
    where
      wide : (j : Kind) → 8 ≤ checkpoint_width j
      wide Paired = omega arith
      wide Single = omega arith

  pub end_of_spans : (16 ≤ checkpoint_width k → r ≡ window_end k a 8 w) → w ≡ w' → k ≡ Paired → r ≡ window_end k a 8 w'
  end_of_spans f e p = f (rw p (omega arith)) ∙ ap (window_end k a 8) e
