-- Which of some records need a row, as a mask: its lowest bit, what stands above it, and the masks of the words of a block.
-- A word of carries has one for each record that needs no row.
use Prim.Native.Nat.{ℕ, zero, suc, ◌+◌, ◌-◌, ◌*◌, ◌/◌, ◌%◌, ◌^◌, ◌≤◌, ◌<◌}
use mathlib.Core.Path.{◌≡◌, refl, sym, ap, ◌∙◌, subst}
use mathlib.Core.Logic.{◌⊎◌, inl, inr}
use mathlib.Core.Bool.{Bool, true, false, cond}
use mathlib.Core.List.{[], ◌∷◌, ◌++◌}
use native.Mathlib.Nat.{add-zero, not-suc-le-zero, le_of_suc-le-suc, pow-suc}
use native.Mathlib.Omega.{arith}
use lib.Bits.{bit_and, and_block, and_mask, and_high, and_le_l, and_le_r}
use lib.Dec.{ltb, eqb}
use lib.Pow.{pow_pos, shr-shr, low}
use borrow.Author.Tests.{ltb-true, ltb-false, ne_eqb}
use Rattle.loc_leaf.specs.declared.Kind.{Kind}
use Rattle.loc_leaf.specs.declared.Kind.TheVariants.{Paired, Single}
use Rattle.loc_leaf.specs.Bytes.{Bytes, bytes}
use Rattle.loc_leaf.specs.Slot.{needs_row}
use Rattle.loc_leaf.specs.Block.{slot_bytes, row_bit, row_mask, lowest}
use Rattle.loc_leaf.proofs.Booleans.{is?}
use Rattle.loc_leaf.proofs.Lanes.{byte_mask, carry_mask, bytes_8, lanes, bit_lt, carries_8, gather, gathered}
use Rattle.loc_leaf.proofs.BlockLaws.{word_mask, word_parts, low_bytes, two_bytes}

-- ---- bits and bytes

byte_lt : (n : ℕ) → n % 256 < 256
byte_lt n = omega arith

bit_zero : (b : Bool) → ◌≡◌ {A = ℕ} (cond b 1 0) 0 → b ≡ false
bit_zero true e = absurd (omega arith)
bit_zero false e = refl

-- ---- the mask of n records

module _ (kd : Kind) (s : Bytes) where
  mask_lt : (j n m : ℕ) → n ≤ m → row_mask kd s j n < 2 ^ m
  unfolding row_mask
  mask_lt j zero m h = pow_pos m
  mask_lt j (suc n) zero h = absurd (not-suc-le-zero h)
  mask_lt j (suc n) (suc m) h =
      omega (arith, bit_lt (needs_row kd (slot_bytes s j)), mask_lt (j + 1) n m (le_of_suc-le-suc h), pow-suc 2 m)

  pub mask_low : (j n : ℕ) → n ≤ 8 → row_mask kd s j n < 256
  mask_low j n h = mask_lt j n 8 h

  pub nibble_low : (j n : ℕ) → n ≤ 4 → row_mask kd s j n < 16
  nibble_low j n h = mask_lt j n 4 h

  -- no bit is set: none of the records needs a row
  pub mask_none : (j n : ℕ) → row_mask kd s j n ≡ 0 → (i : ℕ) → j ≤ i → i < j + n → needs_row kd (slot_bytes s i) ≡ false
  unfolding row_mask
  mask_none j zero e i h l = absurd (omega arith)
  mask_none j (suc n) e i h l = go (is? (ltb j i)) (λ p q. mask_none (j + 1) n (omega arith) i p q)
    where
      go : (ltb j i ≡ true) ⊎ (ltb j i ≡ false) → (j + 1 ≤ i → i < j + 1 + n → needs_row kd (slot_bytes s i) ≡ false) → needs_row kd (slot_bytes s i) ≡ false
      go (inl t) more = more (omega (arith, ltb-true j i t)) (omega arith)
      go (inr t) more =
          let q : j ≡ i = omega (arith, ltb-false j i t) in
          subst (λ (m : ℕ). needs_row kd (slot_bytes s m) ≡ false) q (bit_zero (needs_row kd (slot_bytes s j)) (omega arith))

  -- record j + z is the first of n that needs a row, and the mask of the records after it stands above its bit
  abbrev pub First : ℕ → ℕ → ℕ → Type 0
  First j n z =
      (z < n) × ((i : ℕ) → j ≤ i → i < j + z → needs_row kd (slot_bytes s i) ≡ false) × (needs_row kd (slot_bytes s (j + z)) ≡ true)
      × (row_mask kd s j n / 2 ^ (z + 1) ≡ row_mask kd s (j + z + 1) (n - z - 1))

  mask_odd : (j n : ℕ) → row_mask kd s j (suc n) % 2 ≡ row_bit kd s j
  unfolding row_mask
  mask_odd j n = omega (arith, bit_lt (needs_row kd (slot_bytes s j)))

  mask_half : (j n : ℕ) → row_mask kd s j (suc n) / 2 ≡ row_mask kd s (j + 1) n
  unfolding row_mask
  mask_half j n = omega (arith, bit_lt (needs_row kd (slot_bytes s j)))

  first_here : (j n z : ℕ) → needs_row kd (slot_bytes s j) ≡ true → z ≡ 0 → First j (suc n) z
  first_here j n z b e =
      let l : n ≡ suc n - 0 - 1 = omega arith in
      rw (e, add-zero j) ((omega arith, λ i h l. absurd (omega arith), b, mask_half j n ∙ ap (row_mask kd s (j + 1)) l))

  first_next : (j n y z : ℕ) → needs_row kd (slot_bytes s j) ≡ false → z ≡ suc y → First (j + 1) n y → First j (suc n) z
  first_next j n y z b e f = rw e ((omega (arith, f.0), before, subst (λ (t : ℕ). needs_row kd (slot_bytes s t) ≡ true) at f.2, above))
    where
      at : j + 1 + y ≡ j + suc y
      at = omega arith

      before : (i : ℕ) → j ≤ i → i < j + suc y → needs_row kd (slot_bytes s i) ≡ false
      before i h l = go (is? (ltb j i))
        where
          go : (ltb j i ≡ true) ⊎ (ltb j i ≡ false) → needs_row kd (slot_bytes s i) ≡ false
          go (inl t) = f.1 i (omega (arith, ltb-true j i t)) (omega arith)
          go (inr t) = let q : j ≡ i = omega (arith, ltb-false j i t) in subst (λ (m : ℕ). needs_row kd (slot_bytes s m) ≡ false) q b

      above : row_mask kd s j (suc n) / 2 ^ (suc y + 1) ≡ row_mask kd s (j + suc y + 1) (suc n - suc y - 1)
      above =
          let k : suc y + 1 ≡ 1 + (y + 1) = omega arith in
          let l : n - y - 1 ≡ suc n - suc y - 1 = omega arith in
          ap (λ (t : ℕ). row_mask kd s j (suc n) / 2 ^ t) k ∙ sym (shr-shr (row_mask kd s j (suc n)) 1 (y + 1))
          ∙ ap (λ (t : ℕ). t / 2 ^ (y + 1)) (mask_half j n) ∙ f.3 ∙ (λ i. row_mask kd s (at i + 1) (l i))

  first_of : (u j n : ℕ) → n ≤ u → (row_mask kd s j n ≡ 0 → ⊥) → First j n (lowest u (row_mask kd s j n))
  unfolding lowest row_mask
  first_of u j zero h f = absurd (f refl)
  first_of zero j (suc n) h f = absurd (not-suc-le-zero h)
  first_of (suc u) j (suc n) h f = go (is? (needs_row kd (slot_bytes s j))) (first_of u (j + 1) n (le_of_suc-le-suc h))
    where
      low_is : (b : Bool) → needs_row kd (slot_bytes s j) ≡ b → lowest (suc u) (row_mask kd s j (suc n)) ≡ cond (eqb (cond b 1 0) 1) 0 (suc (lowest u (row_mask kd s (j + 1) n)))
      low_is b t =
          let o : row_mask kd s j (suc n) % 2 ≡ cond b 1 0 = mask_odd j n ∙ ap (λ (c : Bool). cond c 1 0) t in
          (λ i. cond (eqb (o i) 1) 0 (suc (lowest u (mask_half j n i))))

      go : (needs_row kd (slot_bytes s j) ≡ true) ⊎ (needs_row kd (slot_bytes s j) ≡ false)
          → ((row_mask kd s (j + 1) n ≡ 0 → ⊥) → First (j + 1) n (lowest u (row_mask kd s (j + 1) n)))
          → First j (suc n) (lowest (suc u) (row_mask kd s j (suc n)))
      go (inl t) more = first_here j n (lowest (suc u) (row_mask kd s j (suc n))) t (low_is true t)
      go (inr t) more =
          first_next j n (lowest u (row_mask kd s (j + 1) n)) (lowest (suc u) (row_mask kd s j (suc n))) t (low_is false t)
          (more (λ e. f (λ i. cond (t i) 1 0 + 2 * e i)))

  -- the lowest bit of a mask
  pub mask_first : (j n z : ℕ) → n ≤ 8 → (row_mask kd s j n ≡ 0 → ⊥) → z ≡ lowest 8 (row_mask kd s j n) → First j n z
  mask_first j n z h f e = rw e (first_of 8 j n h f)

-- the mask of a block is put together from those of its words
pub words_append : (kd : Kind) (lo hi : ℕ) → row_mask kd (bytes 8 lo) 0 4 + 16 * row_mask kd (bytes 8 hi) 0 4 ≡ row_mask kd (bytes 8 lo ++ bytes 8 hi) 0 8
unfolding row_mask bytes
words_append kd lo hi = omega arith

-- ---- a paired block

-- r has the carries of the records of w that need no row
abbrev pub Full : ℕ → ℕ → Type 0
Full w r =
    r + 2 ^ 8 * row_bit Paired (bytes 8 w) 0 + 2 ^ 24 * row_bit Paired (bytes 8 w) 1 + 2 ^ 40 * row_bit Paired (bytes 8 w) 2 + 2 ^ 56 * row_bit Paired (bytes 8 w) 3
    ≡ carry_mask

pub full_word : (w : ℕ) → Full w (bit_and (bit_and (bit_and w byte_mask + byte_mask) (bit_and (w / 2 ^ 8) byte_mask + byte_mask)) carry_mask)
full_word w =
    (λ i.
    carries_8 w i + 2 ^ 8 * row_bit Paired (bytes_8 w i) 0 + 2 ^ 24 * row_bit Paired (bytes_8 w i) 1 + 2 ^ 40 * row_bit Paired (bytes_8 w i) 2
    + 2 ^ 56 * row_bit Paired (bytes_8 w i) 3)
    ∙ omega (
      arith,
      bit_lt (needs_row Paired (w % 256 ∷ w / 2 ^ 8 % 256 ∷ [])),
      bit_lt (needs_row Paired (w / 2 ^ 16 % 256 ∷ w / 2 ^ 24 % 256 ∷ [])),
      bit_lt (needs_row Paired (w / 2 ^ 32 % 256 ∷ w / 2 ^ 40 % 256 ∷ [])),
      bit_lt (needs_row Paired (w / 2 ^ 48 % 256 ∷ w / 2 ^ 56 % 256 ∷ [])),
    )

-- the carries that are missing, side by side
pub zero_nibble_is : (w r : ℕ) → Full w r → gather ((carry_mask - r) / 2 ^ 8) ≡ row_mask Paired (bytes 8 w) 0 4
unfolding row_mask
zero_nibble_is w r f =
    let b : (j : ℕ) → row_bit Paired (bytes 8 w) j < 2 = (λ j. bit_lt (needs_row Paired (slot_bytes (bytes 8 w) j))) in
    let e : (carry_mask - r) / 2 ^ 8 ≡ lanes (row_bit Paired (bytes 8 w) 0) (row_bit Paired (bytes 8 w) 1) (row_bit Paired (bytes 8 w) 2) (row_bit Paired (bytes 8 w) 3) =
    missing r _ _ _ _ (b 0) (b 1) (b 2) (b 3) f in
    ap gather e ∙ gathered _ _ _ _ (b 0) (b 1) (b 2) (b 3)
  where
    missing : (r x y z t : ℕ) → x < 2 → y < 2 → z < 2 → t < 2 → r + 2 ^ 8 * x + 2 ^ 24 * y + 2 ^ 40 * z + 2 ^ 56 * t ≡ carry_mask → (carry_mask - r) / 2 ^ 8 ≡ lanes x y z t
    missing r x y z t hx hy hz ht f = omega arith

-- all carries are there: none of the word's records needs a row
all_full : (w r : ℕ) → Full w r → carry_mask ≤ r → row_mask Paired (bytes 8 w) 0 4 ≡ 0
unfolding row_mask
all_full w r f h = omega arith

pub none_zero_mask : (lo hi a b : ℕ) → Full lo a → Full hi b → bit_and a b ≡ carry_mask → row_mask Paired (bytes 8 lo ++ bytes 8 hi) 0 8 ≡ 0
none_zero_mask lo hi a b fa fb e =
    sym (words_append Paired lo hi) ∙ (λ i. all_full lo a fa (omega (arith, and_le_l a b)) i + 16 * all_full hi b fb (omega (arith, and_le_r a b)) i)

-- ---- a single block

-- the code's WORD_CARRIES
abbrev pub word_carries : ℕ
word_carries = 0x0001_0000_0001_0000

reached : (n : ℕ) → 65536 ≤ n → n < 131072 → bit_and n 65536 ≡ 65536
reached n h l = let q : n / 2 ^ 16 ≡ 1 = omega arith in and_high n 1 16 ∙ ap (λ (t : ℕ). t % 2 * 2 ^ 16) q

-- sixteen bits that are not all 0, with 65,535 added, reach the bit above them
carried : (x y : ℕ) → x < 256 → y < 256 → bit_and (x + 256 * y + 65535) 65536 + 2 ^ 16 * cond (needs_row Single (x ∷ y ∷ [])) 1 0 ≡ 65536
unfolding needs_row
carried zero zero hx hy = refl
carried zero (suc y) hx hy = rw (ne_eqb (suc y) 0 (λ e. omega arith), reached (0 + 256 * suc y + 65535) (omega arith) (omega arith)) refl
carried (suc x) y hx hy = rw (ne_eqb (suc x) 0 (λ e. omega arith), reached (suc x + 256 * y + 65535) (omega arith) (omega arith)) refl

-- r has the carries of records 0 and 2 of w
abbrev pub Even : ℕ → ℕ → Type 0
Even w r = r + 2 ^ 16 * row_bit Single (bytes 8 w) 0 + 2 ^ 48 * row_bit Single (bytes 8 w) 2 ≡ word_carries

-- the code's steps in even_full
pub even_word : (w : ℕ) → Even w (bit_and (bit_and w word_mask + word_mask) word_carries)
even_word w =
    let x : ℕ = w % 256 + 256 * (w / 2 ^ 8 % 256) + 65535 in
    let y : ℕ = w / 2 ^ 32 % 256 + 256 * (w / 2 ^ 40 % 256) + 65535 in
    let e : bit_and w word_mask + word_mask ≡ y * 2 ^ 32 + x = ap (λ (n : ℕ). n + word_mask) (word_parts w ∙ (λ i. two_bytes w 32 i * 2 ^ 32 + low_bytes w i)) ∙ omega arith in
    let parts : bit_and (bit_and w word_mask + word_mask) word_carries ≡ bit_and y 65536 * 2 ^ 32 + bit_and x 65536 =
    ap (λ (n : ℕ). bit_and n word_carries) e ∙ and_block 32 y 65536 x 65536 (omega arith) (omega arith) in
    let p = carried (w % 256) (w / 2 ^ 8 % 256) (byte_lt w) (byte_lt (w / 2 ^ 8)) in
    let q = carried (w / 2 ^ 32 % 256) (w / 2 ^ 40 % 256) (byte_lt (w / 2 ^ 32)) (byte_lt (w / 2 ^ 40)) in
    (λ i. parts i + 2 ^ 16 * row_bit Single (bytes_8 w i) 0 + 2 ^ 48 * row_bit Single (bytes_8 w i) 2) ∙ omega (arith, p, q)

-- records 1 and 3 of a word are records 0 and 2 of the word without its lowest sixteen bits
record_1 : (w : ℕ) → row_bit Single (bytes 8 (w / 2 ^ 16)) 0 ≡ row_bit Single (bytes 8 w) 1
unfolding bytes
record_1 w = ap (λ (n : ℕ). cond (needs_row Single (n % 256 ∷ n / 256 % 256 ∷ [])) 1 0) (sym (shr-shr w 8 8))

record_3 : (w : ℕ) → row_bit Single (bytes 8 (w / 2 ^ 16)) 2 ≡ row_bit Single (bytes 8 w) 3
unfolding bytes
record_3 w = ap (λ (n : ℕ). cond (needs_row Single (n / 256 / 256 / 256 / 256 % 256 ∷ n / 256 / 256 / 256 / 256 / 256 % 256 ∷ [])) 1 0) (sym (shr-shr w 8 8))

-- the code's steps in empty_nibble: the missing carries of records 0 and 2 beside those of 1 and 3
abbrev beside : ℕ → ℕ → ℕ
beside a b = (word_carries - a) / 2 ^ 16 + (word_carries - b) / 2 ^ 15

gathered_2 : (a b x y z t : ℕ) → x < 2 → y < 2 → z < 2 → t < 2 → a + 2 ^ 16 * x + 2 ^ 48 * z ≡ word_carries → b + 2 ^ 16 * y + 2 ^ 48 * t ≡ word_carries
    → bit_and (beside a b + beside a b / 2 ^ 30) 15 ≡ x + 2 * (y + 2 * (z + 2 * (t + 2 * 0)))
gathered_2 a b x y z t hx hy hz ht e f =
    let p : (word_carries - a) / 2 ^ 16 ≡ x + 2 ^ 32 * z = omega arith in
    let q : (word_carries - b) / 2 ^ 15 ≡ 2 * y + 2 ^ 33 * t = omega arith in
    let n : ℕ = x + 2 ^ 32 * z + (2 * y + 2 ^ 33 * t) in
    let m : beside a b ≡ n = (λ i. p i + q i) in
    let r : n / 2 ^ 30 ≡ 4 * z + 8 * t = omega arith in
    let v : n + (4 * z + 8 * t) ≡ (2 ^ 28 * z + 2 ^ 29 * t) * 2 ^ 4 + (x + 2 * (y + 2 * (z + 2 * (t + 2 * 0)))) = omega arith in
    ap (λ (k : ℕ). bit_and (k + k / 2 ^ 30) 15) m ∙ and_mask (n + n / 2 ^ 30) 4
    ∙ ap (λ (k : ℕ). k % 2 ^ 4) (ap (λ (k : ℕ). n + k) r ∙ v) ∙ low (2 ^ 28 * z + 2 ^ 29 * t) 4 (omega arith)

module _ (w a b : ℕ) (even : Even w a) (odd : Even (w / 2 ^ 16) b) where
  pub odd_is : b + 2 ^ 16 * row_bit Single (bytes 8 w) 1 + 2 ^ 48 * row_bit Single (bytes 8 w) 3 ≡ word_carries
  odd_is = sym (λ i. b + 2 ^ 16 * record_1 w i + 2 ^ 48 * record_3 w i) ∙ odd

  four_full : word_carries ≤ a → word_carries ≤ b → row_mask Single (bytes 8 w) 0 4 ≡ 0
  unfolding row_mask
  four_full p q = omega (arith, odd_is)

  pub empty_nibble_is : bit_and (beside a b + beside a b / 2 ^ 30) 15 ≡ row_mask Single (bytes 8 w) 0 4
  unfolding row_mask
  empty_nibble_is = gathered_2 a b _ _ _ _ (bit_lt (needs_row Single (slot_bytes (bytes 8 w) 0))) (bit_lt (needs_row Single (slot_bytes (bytes 8 w) 1)))
      (bit_lt (needs_row Single (slot_bytes (bytes 8 w) 2))) (bit_lt (needs_row Single (slot_bytes (bytes 8 w) 3))) even odd_is

pub none_empty_mask : (lo hi a b c d : ℕ) → Even lo a → Even (lo / 2 ^ 16) b → Even hi c → Even (hi / 2 ^ 16) d
    → bit_and (bit_and (bit_and a b) c) d ≡ word_carries → row_mask Single (bytes 8 lo ++ bytes 8 hi) 0 8 ≡ 0
none_empty_mask lo hi a b c d ea eb ec ed e =
    let d_le : word_carries ≤ d = omega (arith, and_le_r (bit_and (bit_and a b) c) d) in
    let abc : word_carries ≤ bit_and (bit_and a b) c = omega (arith, and_le_l (bit_and (bit_and a b) c) d) in
    let c_le : word_carries ≤ c = omega (arith, and_le_r (bit_and a b) c) in
    let ab : word_carries ≤ bit_and a b = omega (arith, and_le_l (bit_and a b) c) in
    let low : row_mask Single (bytes 8 lo) 0 4 ≡ 0 = four_full lo a b ea eb (omega (arith, and_le_l a b)) (omega (arith, and_le_r a b)) in
    sym (words_append Single lo hi) ∙ (λ i. low i + 16 * four_full hi c d ec ed c_le d_le i)
