-- Reading a stored number byte by byte, and storing one: in the form in which the code meets them.
-- Nothing is asked of a length: past the end a byte is 0, and a store does nothing.
use Prim.Native.Nat.{ℕ, zero, suc, ◌+◌, ◌-◌, ◌*◌, ◌/◌, ◌%◌, ◌≤◌, ◌<◌}
use mathlib.Core.Path.{◌≡◌, refl, sym, ◌∙◌}
use mathlib.Core.List.{[], ◌∷◌}
use native.Mathlib.Numerals.{add-one}
use native.Mathlib.Omega.{arith}
use lib.ListN.{length, take, drop, set}
use lib.Seq.{take-nil, set_out, sets}
use Rattle.loc_leaf.specs.Bytes.{Bytes, byte, number, bytes, store}

-- ---- reading

pub spelled : (n i : ℕ) (xs : Bytes) → number (take (suc n) (drop i xs)) ≡ byte i xs + 256 * number (take n (drop (suc i) xs))
unfolding number
spelled n zero [] = rw (take-nil n) refl
spelled n zero (x ∷ xs) = refl
spelled n (suc i) [] = rw (take-nil n) refl
spelled n (suc i) (x ∷ xs) = spelled n i xs

module _ (xs : Bytes) where
  pub two_are : (r a b : ℕ) → a ≡ byte 0 xs → b ≡ byte 1 xs → r ≡ a + b * 0x100 → r ≡ number (take 2 xs)
  unfolding number
  two_are r a b p q e = omega (arith, spelled 1 0 xs, spelled 0 1 xs)

  pub four_are : (r a b c d : ℕ) → a ≡ byte 0 xs → b ≡ byte 1 xs → c ≡ byte 2 xs → d ≡ byte 3 xs
      → r ≡ a + b * 0x100 + c * 0x1_0000 + d * 0x100_0000 → r ≡ number (take 4 xs)
  unfolding number
  four_are r a b c d p₀ p₁ p₂ p₃ e = omega (arith, spelled 3 0 xs, spelled 2 1 xs, spelled 1 2 xs, spelled 0 3 xs)

  pub eight_are : (r a b c d e f g h : ℕ) → a ≡ byte 0 xs → b ≡ byte 1 xs → c ≡ byte 2 xs → d ≡ byte 3 xs → e ≡ byte 4 xs → f ≡ byte 5 xs → g ≡ byte 6 xs → h ≡ byte 7 xs
      → r ≡ a + b * 0x100 + c * 0x1_0000 + d * 0x100_0000 + e * 0x1_0000_0000 + f * 0x100_0000_0000 + g * 0x1_0000_0000_0000 + h * 0x100_0000_0000_0000
      → r ≡ number (take 8 xs)
  unfolding number
  eight_are r a b c d e f g h p₀ p₁ p₂ p₃ p₄ p₅ p₆ p₇ q =
      omega (arith, spelled 7 0 xs, spelled 6 1 xs, spelled 5 2 xs, spelled 4 3 xs, spelled 3 4 xs, spelled 2 5 xs, spelled 1 6 xs, spelled 0 7 xs)

-- ---- storing

pub sets_past : (xs : Bytes) (to : ℕ) (vs : Bytes) → length xs ≤ to → sets xs to vs ≡ xs
sets_past xs to [] h = refl
sets_past xs to (v ∷ vs) h = rw (set_out xs to v h) (sets_past xs (suc to) vs (omega arith))

-- what is left to store, on what is stored so far, is the whole
pub put_turn : (s : Bytes) (to end rest : ℕ) → to < end
    → store to (bytes (end - to) rest) s ≡ store (to + 1) (bytes (end - (to + 1)) (rest / 256)) (set s to (rest % 256))
unfolding store bytes
put_turn s to end rest h = let e : end - to ≡ suc (end - (to + 1)) = omega arith in rw (e, add-one to) refl

-- nothing is left, or no place
pub put_done : (s whole : Bytes) (to left rest : ℕ) → whole ≡ store to (bytes left rest) s → (to < length s → left ≤ 0) → s ≡ whole
unfolding store bytes
put_done s whole to zero rest e h = sym e
put_done s whole to (suc k) rest e h = sym (e ∙ sets_past s to (bytes (suc k) rest) (grind arith))
