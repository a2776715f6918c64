-- Refusals one after the other: the first that is not 0 stays, and where none is left each of them is 0.
-- A test that gives no number does not hold.
use Prim.Native.Nat.{ℕ, zero, suc}
use mathlib.Core.Path.{◌≡◌, refl}
use mathlib.Core.Bool.{Bool, true, false}
use native.Mathlib.Nat.{suc-ne-zero}
use Rattle.loc_leaf.specs.declared.refusal.Refusal.{Refusal}
use Rattle.loc_leaf.specs.Answers.{refuse, ◌or_else◌, number_of}
use native.Mathlib.Omega.{arith}

pub or_else_first : (x y : ℕ) → (x ≡ 0 → ⊥) → (x or_else y) ≡ x
or_else_first zero y h = absurd (h refl)
or_else_first (suc x) y h = refl

pub or_else_left : (x y : ℕ) → (x or_else y) ≡ 0 → x ≡ 0
or_else_left zero y h = refl
or_else_left (suc x) y h = h

pub or_else_right : (x y : ℕ) → (x or_else y) ≡ 0 → y ≡ 0
or_else_right zero y h = h
or_else_right (suc x) y h = absurd (suc-ne-zero x h)

pub or_else_zero : (x : ℕ) → (x or_else 0) ≡ x
or_else_zero zero = refl
or_else_zero (suc x) = refl

pub or_else_assoc : (x y z : ℕ) → ((x or_else y) or_else z) ≡ (x or_else (y or_else z))
or_else_assoc zero y z = refl
or_else_assoc (suc x) y z = refl

pub refuse_zero : (b : Bool) (n : ℕ) → refuse b (suc n) ≡ 0 → b ≡ false
refuse_zero true n h = absurd (suc-ne-zero n h)
refuse_zero false n h = refl

-- ---- a fact of every number that may be given

-- of two numbers, the first that is not 0
pub or_else_holds : (P : ℕ → Type 0) {n m : ℕ} → P n → P m → P (n or_else m)
or_else_holds P {n = zero} p q = q
or_else_holds P {n = suc n} p q = p

-- a test that gives the number n
pub refuse_holds : (P : ℕ → Type 0) (n : ℕ) (b : Bool) → P 0 → P n → P (refuse b n)
refuse_holds P n true z p = p
refuse_holds P n false z p = z

-- ---- what code returns

-- 0 is no refusal's number
pub number_some : (r : Refusal) → number_of r ≡ 0 → ⊥
number_some r h = grind arith
