-- The totals of a block: the sums of its first bytes, of its second bytes, and of its records' sixteen bits.
-- A mask takes a word apart: with BYTES four bytes are left of it, with WORDS two numbers of sixteen bits.
use Prim.Native.Nat.{ℕ, ◌+◌, ◌*◌, ◌/◌, ◌%◌, ◌^◌, ◌<◌}
use mathlib.Core.Path.{◌≡◌, refl, sym, ap, ◌∙◌, subst}
use mathlib.Core.List.{◌++◌}
use native.Mathlib.Omega.{arith}
use lib.Pow.{shr-shr, low, high}
use lib.Bits.{bit_and, and_mask}
use Rattle.loc_leaf.specs.declared.Kind.TheVariants.{Paired, Single}
use Rattle.loc_leaf.specs.Bytes.{bytes}
use Rattle.loc_leaf.specs.Slot.{inline}
use Rattle.loc_leaf.specs.Block.{sum_from, inline_strides, inline_spans}
use Rattle.loc_leaf.proofs.Lanes.{byte_mask, bytes_8, lanes, and_parts, byte_parts, take_1, take_2, summed}

-- ---- a word under a mask

-- the code's WORDS
abbrev pub word_mask : ℕ
word_mask = 0x0000_ffff_0000_ffff

-- two lanes of thirty-two bits, and the sixteen low bits of each
pub word_parts : (w : ℕ) → bit_and w word_mask ≡ (w / 2 ^ 32 % 2 ^ 16) * 2 ^ 32 + w % 2 ^ 16
word_parts w =
    let e : w % 2 ^ 32 % 2 ^ 16 ≡ w % 2 ^ 16 = omega arith in
    and_parts w 32 0xffff 0xffff (omega arith) ∙ (λ i. and_mask (w / 2 ^ 32) 16 i * 2 ^ 32 + (and_mask (w % 2 ^ 32) 16 ∙ e) i)

-- the same of the records between them
pub odd_parts : (w : ℕ) → bit_and (w / 2 ^ 16) word_mask ≡ w / 2 ^ 48 % 2 ^ 16 * 2 ^ 32 + w / 2 ^ 16 % 2 ^ 16
odd_parts w = word_parts (w / 2 ^ 16) ∙ ap (λ (n : ℕ). n % 2 ^ 16 * 2 ^ 32 + w / 2 ^ 16 % 2 ^ 16) (shr-shr w 16 32)

-- sixteen bits of a word as two bytes
pub low_bytes : (w : ℕ) → w % 2 ^ 16 ≡ w % 256 + 256 * (w / 2 ^ 8 % 256)
low_bytes w = omega arith

pub two_bytes : (w j : ℕ) → w / 2 ^ j % 2 ^ 16 ≡ w / 2 ^ j % 256 + 256 * (w / 2 ^ (j + 8) % 256)
two_bytes w j =
    low_bytes (w / 2 ^ j) ∙ ap (λ (n : ℕ). w / 2 ^ j % 256 + 256 * (n % 256)) (shr-shr w j 8)

-- ---- totals

module _ (lo hi : ℕ) where
  two_lt : (m n : ℕ) → m % 256 + n % 256 < 2 ^ 11
  two_lt m n = omega arith

  -- the code's e in first_total
  abbrev bytes_sum : ℕ
  bytes_sum = bit_and lo byte_mask + bit_and hi byte_mask

  bytes_are : bytes_sum
      ≡ lanes (lo % 256 + hi % 256) (lo / 2 ^ 16 % 256 + hi / 2 ^ 16 % 256) (lo / 2 ^ 32 % 256 + hi / 2 ^ 32 % 256) (lo / 2 ^ 48 % 256 + hi / 2 ^ 48 % 256)
  bytes_are = (λ i. byte_parts lo i + byte_parts hi i) ∙ omega arith

  firsts_are : inline_strides Paired (bytes 8 lo ++ bytes 8 hi) 0 8
      ≡ lo % 256 + hi % 256 + (lo / 2 ^ 16 % 256 + hi / 2 ^ 16 % 256) + (lo / 2 ^ 32 % 256 + hi / 2 ^ 32 % 256) + (lo / 2 ^ 48 % 256 + hi / 2 ^ 48 % 256)
  unfolding sum_from inline
  firsts_are = (λ i. inline_strides Paired (bytes_8 lo i ++ bytes_8 hi i) 0 8) ∙ omega arith

  pub total_firsts : (take_1 bytes_sum < 2 ^ 64) × (take_2 (take_1 bytes_sum) < 2 ^ 64) × (take_2 (take_1 bytes_sum) / 2 ^ 48 ≡ inline_strides Paired (bytes 8 lo ++ bytes 8 hi) 0 8)
  total_firsts =
      rw (bytes_are, firsts_are)
      (summed _ _ _ _ (two_lt lo hi) (two_lt (lo / 2 ^ 16) (hi / 2 ^ 16)) (two_lt (lo / 2 ^ 32) (hi / 2 ^ 32)) (two_lt (lo / 2 ^ 48) (hi / 2 ^ 48)))

  pub firsts_small : inline_strides Paired (bytes 8 lo ++ bytes 8 hi) 0 8 < 2048
  firsts_small = rw firsts_are (omega arith)

  -- the second bytes are the first bytes of the words shifted by a byte
  pub total_seconds : inline_strides Paired (bytes 8 (lo / 2 ^ 8) ++ bytes 8 (hi / 2 ^ 8)) 0 8 ≡ inline_spans Paired (bytes 8 lo ++ bytes 8 hi) 0 8
  unfolding sum_from inline bytes
  total_seconds = refl

  -- ---- the records as numbers of sixteen bits

  abbrev lower : ℕ
  lower = lo % 2 ^ 16 + lo / 2 ^ 16 % 2 ^ 16 + (hi % 2 ^ 16 + hi / 2 ^ 16 % 2 ^ 16)

  abbrev upper : ℕ
  upper = lo / 2 ^ 32 % 2 ^ 16 + lo / 2 ^ 48 % 2 ^ 16 + (hi / 2 ^ 32 % 2 ^ 16 + hi / 2 ^ 48 % 2 ^ 16)

  -- the code's e in strides_total
  abbrev words_sum : ℕ
  words_sum = bit_and lo word_mask + bit_and (lo / 2 ^ 16) word_mask + bit_and hi word_mask + bit_and (hi / 2 ^ 16) word_mask

  words_are : words_sum ≡ upper * 2 ^ 32 + lower
  words_are = (λ i. word_parts lo i + odd_parts lo i + word_parts hi i + odd_parts hi i) ∙ omega arith

  pub records_are : upper + lower ≡ inline_strides Single (bytes 8 lo ++ bytes 8 hi) 0 8
  unfolding sum_from inline
  records_are =
      (λ i.
      two_bytes lo 32 i + two_bytes lo 48 i + (two_bytes hi 32 i + two_bytes hi 48 i)
      + (low_bytes lo i + two_bytes lo 16 i + (low_bytes hi i + two_bytes hi 16 i)))
      ∙ omega arith ∙ sym (λ i. inline_strides Single (bytes_8 lo i ++ bytes_8 hi i) 0 8)

  -- its two lanes
  pub total_records : words_sum / 2 ^ 32 + bit_and words_sum 0xffff_ffff ≡ inline_strides Single (bytes 8 lo ++ bytes 8 hi) 0 8
  total_records =
      let u : words_sum / 2 ^ 32 ≡ upper = ap (λ (n : ℕ). n / 2 ^ 32) words_are ∙ high upper 32 (omega arith) in
      let l : bit_and words_sum 0xffff_ffff ≡ lower = and_mask words_sum 32 ∙ ap (λ (n : ℕ). n % 2 ^ 32) words_are ∙ low upper 32 (omega arith) in
      (λ i. u i + l i) ∙ records_are

  pub records_small : inline_strides Single (bytes 8 lo ++ bytes 8 hi) 0 8 < 2 ^ 19
  records_small = subst (λ (n : ℕ). n < 2 ^ 19) records_are (omega arith)
