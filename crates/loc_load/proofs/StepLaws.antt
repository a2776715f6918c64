-- A step keeps a state within 64 bits, no two states have the same successor, and so no state but 0 is followed by 0.
-- Where x xor shifted x is the same for two numbers, their difference equals its own shift, and only 0 does.
use Prim.Native.Nat.{ℕ, zero, suc, ◌+◌, ◌*◌, ◌/◌, ◌%◌, ◌^◌, ◌<◌}
use mathlib.Core.Path.{◌≡◌, refl, sym, ap, ◌∙◌}
use native.Mathlib.Nat.{add-mul, mul_assoc, mul_comm, div-add-mod', mul-add-mod_self_right, mul-mod_left, lt_of_le_of_lt}
use native.Mathlib.Omega.{arith}
use lib.Pow.{pow-add, shr_le}
use lib.Bits.{bit_xor, xor_lt, xor_shr, xor_self}
use Rattle.loc_load.specs.Xorshift.{xor_left, xor_right, xorshift, state}
use Rattle.loc_load.proofs.XorLaws.{xor_four, xor_none, xor_shl_cut}

-- ---- one shift

-- a map that passes through xor, and under which no number but 0 stays as it is
module _ (s : ℕ → ℕ) (through : (a b : ℕ) → s (bit_xor a b) ≡ bit_xor (s a) (s b)) (moves : (d : ℕ) → d ≡ s d → d ≡ 0) where
  one_source : (x y : ℕ) → bit_xor x (s x) ≡ bit_xor y (s y) → x ≡ y
  one_source x y e =
      xor_none x y
      (moves (bit_xor x y)
      (xor_none (bit_xor x y) (s (bit_xor x y))
      (ap (bit_xor (bit_xor x y)) (through x y) ∙ xor_four x y (s x) (s y) ∙ ap (λ (z : ℕ). bit_xor z (bit_xor y (s y))) e ∙ xor_self (bit_xor y (s y)))))

-- ---- which numbers a shift to the left leaves as they are

cut_first : (a c m : ℕ) → a % m * c % m ≡ a * c % m
cut_first a c m =
    sym
    (ap (λ (x : ℕ). x * c % m) (sym (div-add-mod' a m))
    ∙ ap (λ (x : ℕ). x % m) (add-mul (a / m * m) (a % m) c)
    ∙ ap (λ (x : ℕ). (x + a % m * c) % m) (mul_assoc (a / m) m c ∙ ap (λ (x : ℕ). a / m * x) (mul_comm m c) ∙ sym (mul_assoc (a / m) c m))
    ∙ mul-add-mod_self_right (a / m * c) m (a % m * c))

module _ (d w : ℕ) where
  -- d stays as it is
  abbrev Stays : ℕ → Type 0
  Stays k = d ≡ d * 2 ^ k % 2 ^ w

  -- under two shifts, and so under both at once
  stays_both : (j k : ℕ) → Stays j → Stays k → Stays (j + k)
  stays_both j k e f =
      f
      ∙ ap (λ (x : ℕ). x * 2 ^ k % 2 ^ w) e
      ∙ cut_first (d * 2 ^ j) (2 ^ k) (2 ^ w)
      ∙ ap (λ (x : ℕ). x % 2 ^ w) (mul_assoc d (2 ^ j) (2 ^ k) ∙ ap (λ (x : ℕ). d * x) (sym (pow-add 2 j k)))

  -- under one that shifts every digit out
  only_0 : (j : ℕ) → Stays (j + w) → d ≡ 0
  only_0 j e =
      e ∙ ap (λ (x : ℕ). x % 2 ^ w) (ap (λ (x : ℕ). d * x) (pow-add 2 j w) ∙ sym (mul_assoc d (2 ^ j) (2 ^ w))) ∙ mul-mod_left (d * 2 ^ j) (2 ^ w)

-- 5 × 13 = 65 and 4 × 17 = 68
left_13 : (d : ℕ) → d ≡ d * 2 ^ 13 % 2 ^ 64 → d ≡ 0
left_13 d e = only_0 d 64 1 (stays_both d 64 39 26 (stays_both d 64 26 13 twice e) twice)
  where
    twice : d ≡ d * 2 ^ 26 % 2 ^ 64
    twice = stays_both d 64 13 13 e e

left_17 : (d : ℕ) → d ≡ d * 2 ^ 17 % 2 ^ 64 → d ≡ 0
left_17 d e = only_0 d 64 4 (stays_both d 64 34 34 twice twice)
  where
    twice : d ≡ d * 2 ^ 34 % 2 ^ 64
    twice = stays_both d 64 17 17 e e

right_7 : (d : ℕ) → d ≡ d / 2 ^ 7 → d ≡ 0
right_7 d e = omega arith

-- ---- a step

left_lt : (k x : ℕ) → x < 2 ^ 64 → xor_left k x < 2 ^ 64
unfolding xor_left
left_lt k x h = xor_lt 64 x (x * 2 ^ k % 2 ^ 64) h (omega arith)

right_lt : (k x : ℕ) → x < 2 ^ 64 → xor_right k x < 2 ^ 64
unfolding xor_right
right_lt k x h = xor_lt 64 x (x / 2 ^ k) h (lt_of_le_of_lt (shr_le x k) h)

pub step_lt : (x : ℕ) → x < 2 ^ 64 → xorshift x < 2 ^ 64
unfolding xorshift
step_lt x h = left_lt 17 (xor_right 7 (xor_left 13 x)) (right_lt 7 (xor_left 13 x) (left_lt 13 x h))

-- no two states have the same successor
pub step_injective : (x y : ℕ) → xorshift x ≡ xorshift y → x ≡ y
unfolding xorshift xor_left xor_right
step_injective x y e =
    one_source (λ z. z * 2 ^ 13 % 2 ^ 64) (xor_shl_cut 13 64) left_13 x y
    (one_source (λ z. z / 2 ^ 7) (λ a b. xor_shr a b 7) right_7 (xor_left 13 x) (xor_left 13 y)
    (one_source (λ z. z * 2 ^ 17 % 2 ^ 64) (xor_shl_cut 17 64) left_17 (xor_right 7 (xor_left 13 x)) (xor_right 7 (xor_left 13 y)) e))

-- 0 is followed by 0, and nothing else is
pub step_not_0 : (x : ℕ) → (x ≡ 0 → ⊥) → xorshift x ≡ 0 → ⊥
step_not_0 x f e = f (step_injective x 0 (e ∙ sym zero_stays))
  where
    zero_stays : xorshift 0 ≡ 0
    zero_stays = unfold xorshift xor_left xor_right in refl

-- ---- all states of a seed

pub state_lt : (seed n : ℕ) → seed < 2 ^ 64 → state seed n < 2 ^ 64
unfolding state
state_lt seed zero h = h
state_lt seed (suc n) h = step_lt (state seed n) (state_lt seed n h)

-- the state never becomes 0
pub state_not_0 : (seed n : ℕ) → (seed ≡ 0 → ⊥) → state seed n ≡ 0 → ⊥
unfolding state
state_not_0 seed zero f = f
state_not_0 seed (suc n) f = step_not_0 (state seed n) (state_not_0 seed n f)
