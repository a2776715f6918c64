-- The bytes of a word, and a word as four lanes of sixteen bits: what masks, sums and shifts do in each lane.
-- The laws say it of the steps of src/loc_simd.rt, whose two words are a block.
use mathlib.Core.Path.{◌≡◌, refl, sym, ap, ◌∙◌}
use mathlib.Core.Bool.{Bool, true, false, cond}
use mathlib.Core.List.{List, [], ◌∷◌, ◌++◌}
use Prim.Native.Nat.{ℕ, zero, suc, ◌+◌, ◌-◌, ◌*◌, ◌/◌, ◌%◌, ◌^◌, ◌<◌}
use native.Mathlib.Nat.{mod-lt}
use native.Mathlib.Omega.{arith}
use lib.Dec.{eqb}
use lib.Count.{under, count_trailing_zeros}
use lib.Pow.{pow_pos, shr-shr, low, split}
use lib.Bits.{bit_and, and_lt, and_block, and_mask, and_high, and_shr, and_zero_r}
use borrow.Author.Tests.{ne_eqb}
use Rattle.loc_leaf.specs.declared.Kind.TheVariants.{Paired}
use Rattle.loc_leaf.specs.Bytes.{bytes}
use Rattle.loc_leaf.specs.Slot.{needs_row}
use Rattle.loc_leaf.specs.Block.{firsts, seconds, running, lowest, lanes_of}

-- ---- four numbers, one for each record of a word

record Four (m : ℕ) : Type 0 where
  a : ℕ
  b : ℕ
  c : ℕ
  d : ℕ
  a_lt : a < m
  b_lt : b < m
  c_lt : c < m
  d_lt : d < m

abbrev four : {m : ℕ} (a b c d : ℕ) → a < m → b < m → c < m → d < m → Four m
four a b c d ha hb hc hd =
    record { a = a; b = b; c = c; d = d; a_lt = ha; b_lt = hb; c_lt = hc; d_lt = hd }

abbrev each : {m : ℕ} (n : ℕ) → n < m → Four m
each n h = four n n n n h h h h

abbrev list : {m : ℕ} → Four m → List ℕ
list q = q.a ∷ q.b ∷ q.c ∷ q.d ∷ []

-- ---- the bytes of a word

-- one byte more to divide by
over : (w k : ℕ) {n : ℕ} → n ≡ w / 2 ^ k → n / 2 ^ 8 ≡ w / 2 ^ (k + 8)
over w k e = ap (λ (n : ℕ). n / 2 ^ 8) e ∙ shr-shr w k 8

-- each byte by one division
pub bytes_8 : (w : ℕ)
    → bytes 8 w
    ≡ w % 256 ∷ w / 2 ^ 8 % 256 ∷ w / 2 ^ 16 % 256 ∷ w / 2 ^ 24 % 256
    ∷ w / 2 ^ 32 % 256 ∷ w / 2 ^ 40 % 256 ∷ w / 2 ^ 48 % 256 ∷ w / 2 ^ 56 % 256 ∷ []
unfolding bytes
bytes_8 w =
    let e₂ = over w 8 refl in
    let e₃ = over w 16 e₂ in
    let e₄ = over w 24 e₃ in
    let e₅ = over w 32 e₄ in
    let e₆ = over w 40 e₅ in
    let e₇ = over w 48 e₆ in
    (λ i. w % 256 ∷ w / 2 ^ 8 % 256 ∷ e₂ i % 256 ∷ e₃ i % 256 ∷ e₄ i % 256 ∷ e₅ i % 256 ∷ e₆ i % 256 ∷ e₇ i % 256 ∷ [])

byte_lt : (n : ℕ) → n % 256 < 256
byte_lt n = omega arith

abbrev low_bytes : ℕ → ℕ → ℕ → ℕ → Four 256
low_bytes x y z t = four (x % 256) (y % 256) (z % 256) (t % 256) (byte_lt x) (byte_lt y) (byte_lt z) (byte_lt t)

-- the first and the second bytes of its records
abbrev first : ℕ → Four 256
first w = low_bytes w (w / 2 ^ 16) (w / 2 ^ 32) (w / 2 ^ 48)

abbrev second : ℕ → Four 256
second w = low_bytes (w / 2 ^ 8) (w / 2 ^ 24) (w / 2 ^ 40) (w / 2 ^ 56)

firsts_8 : (w : ℕ) → firsts (bytes 8 w) ≡ list (first w)
unfolding firsts
firsts_8 w = ap firsts (bytes_8 w)

-- the second bytes of a block are the first bytes of its words shifted by a byte
pub shifted_firsts : (lo hi : ℕ) → firsts (bytes 8 (lo / 2 ^ 8) ++ bytes 8 (hi / 2 ^ 8)) ≡ seconds (bytes 8 lo ++ bytes 8 hi)
unfolding firsts seconds bytes
shifted_firsts lo hi = refl

-- ---- lanes

-- the word of four lanes, lowest first
abbrev pub lanes : ℕ → ℕ → ℕ → ℕ → ℕ
lanes a b c d = ((d * 2 ^ 16 + c) * 2 ^ 16 + b) * 2 ^ 16 + a

abbrev word : {m : ℕ} → Four m → ℕ
word q = lanes q.a q.b q.c q.d

lanes_cong : {a b c d a' b' c' d' : ℕ} → a ≡ a' → b ≡ b' → c ≡ c' → d ≡ d' → lanes a b c d ≡ lanes a' b' c' d'
lanes_cong p q r s i = lanes (p i) (q i) (r i) (s i)

-- a mask acts in each lane by itself
infixl 20 ◌&◌
abbrev ◌&◌ : Four (2 ^ 16) → Four (2 ^ 16) → Four (2 ^ 16)
p & q =
    four (bit_and p.a q.a) (bit_and p.b q.b) (bit_and p.c q.c) (bit_and p.d q.d)
    (and_lt 16 p.a q.a p.a_lt q.a_lt) (and_lt 16 p.b q.b p.b_lt q.b_lt)
    (and_lt 16 p.c q.c p.c_lt q.c_lt) (and_lt 16 p.d q.d p.d_lt q.d_lt)

and_lanes : (p q : Four (2 ^ 16)) → bit_and (word p) (word q) ≡ word (p & q)
and_lanes p q =
    and_block 16 ((p.d * 2 ^ 16 + p.c) * 2 ^ 16 + p.b) ((q.d * 2 ^ 16 + q.c) * 2 ^ 16 + q.b) p.a q.a p.a_lt q.a_lt
    ∙ ap (λ (n : ℕ). n * 2 ^ 16 + bit_and p.a q.a)
    (and_block 16 (p.d * 2 ^ 16 + p.c) (q.d * 2 ^ 16 + q.c) p.b q.b p.b_lt q.b_lt
    ∙ ap (λ (n : ℕ). n * 2 ^ 16 + bit_and p.b q.b) (and_block 16 p.d q.d p.c q.c p.c_lt q.c_lt))

-- the code's BYTES and CARRIES: the low byte of each lane, and the bit above it
abbrev pub byte_mask : ℕ
byte_mask = 0x00ff_00ff_00ff_00ff

abbrev pub carry_mask : ℕ
carry_mask = 0x0100_0100_0100_0100

-- a mask takes the parts above and below a bit by themselves
pub and_parts : (w k m n : ℕ) → n < 2 ^ k → bit_and w (m * 2 ^ k + n) ≡ bit_and (w / 2 ^ k) m * 2 ^ k + bit_and (w % 2 ^ k) n
and_parts w k m n h = ap (λ (v : ℕ). bit_and v (m * 2 ^ k + n)) (sym (split w k)) ∙ and_block k (w / 2 ^ k) m (w % 2 ^ k) n (mod-lt w (pow_pos k)) h

half_bytes : (w : ℕ) → bit_and w 0xff_00ff ≡ (w / 2 ^ 16 % 2 ^ 8) * 2 ^ 16 + w % 2 ^ 8
half_bytes w =
    let e : w % 2 ^ 16 % 2 ^ 8 ≡ w % 2 ^ 8 = omega arith in
    and_parts w 16 0xff 0xff (omega arith) ∙ (λ i. and_mask (w / 2 ^ 16) 8 i * 2 ^ 16 + (and_mask (w % 2 ^ 16) 8 ∙ e) i)

-- the first bytes of a word, each in its lane
pub byte_parts : (w : ℕ) → bit_and w byte_mask ≡ lanes (w % 256) (w / 2 ^ 16 % 256) (w / 2 ^ 32 % 256) (w / 2 ^ 48 % 256)
byte_parts w =
    let e : w % 2 ^ 32 / 2 ^ 16 % 2 ^ 8 ≡ w / 2 ^ 16 % 2 ^ 8 = omega arith in
    let f : w % 2 ^ 32 % 2 ^ 8 ≡ w % 2 ^ 8 = omega arith in
    and_parts w 32 0xff_00ff 0xff_00ff (omega arith)
    ∙ (λ i. half_bytes (w / 2 ^ 32) i * 2 ^ 32 + half_bytes (w % 2 ^ 32) i)
    ∙ (λ i. (shr-shr w 32 16 i % 2 ^ 8 * 2 ^ 16 + w / 2 ^ 32 % 2 ^ 8) * 2 ^ 32 + (e i * 2 ^ 16 + f i)) ∙ omega arith

-- the second bytes
pub second_parts : (w : ℕ) → bit_and (w / 2 ^ 8) byte_mask ≡ lanes (w / 2 ^ 8 % 256) (w / 2 ^ 24 % 256) (w / 2 ^ 40 % 256) (w / 2 ^ 56 % 256)
second_parts w = byte_parts (w / 2 ^ 8) ∙ (λ i. lanes (w / 2 ^ 8 % 256) (shr-shr w 8 16 i % 256) (shr-shr w 8 32 i % 256) (shr-shr w 8 48 i % 256))

-- the number in each lane
module _ (q : Four (2 ^ 16)) where
  word_lt : word q < 2 ^ 64
  word_lt = omega arith

  lane_0 : bit_and (word q) 65535 ≡ q.a
  lane_0 = and_mask (word q) 16 ∙ low ((q.d * 2 ^ 16 + q.c) * 2 ^ 16 + q.b) 16 q.a_lt

  lane_1 : bit_and (word q / 2 ^ 16) 65535 ≡ q.b
  lane_1 =
      let above : word q / 2 ^ 16 ≡ (q.d * 2 ^ 16 + q.c) * 2 ^ 16 + q.b = omega arith in
      and_mask (word q / 2 ^ 16) 16 ∙ ap (λ (n : ℕ). n % 2 ^ 16) above ∙ low (q.d * 2 ^ 16 + q.c) 16 q.b_lt

  lane_2 : bit_and (word q / 2 ^ 32) 65535 ≡ q.c
  lane_2 =
      let above : word q / 2 ^ 32 ≡ q.d * 2 ^ 16 + q.c = omega arith in
      and_mask (word q / 2 ^ 32) 16 ∙ ap (λ (n : ℕ). n % 2 ^ 16) above ∙ low q.d 16 q.c_lt

  lane_3 : word q / 2 ^ 48 ≡ q.d
  lane_3 = omega arith

-- ---- records that hold a 0

-- 1 where a record of these two bytes needs a row, paired
abbrev zero_bit : ℕ → ℕ → ℕ
zero_bit x y = cond (needs_row Paired (x ∷ y ∷ [])) 1 0

pub bit_lt : (b : Bool) → cond b 1 0 < 2
bit_lt true = omega arith
bit_lt false = omega arith

-- a byte that is not 0, with 255 added, reaches the bit above its byte
reached : (x y : ℕ) → x < 256 → y < 256 → bit_and ((x + 255) / 2 ^ 8) ((y + 255) / 2 ^ 8) % 2 * 256 ≡ 256 * (1 - zero_bit x y)
unfolding needs_row
reached zero y hx hy = refl
reached (suc x) zero hx hy = rw (ne_eqb (suc x) 0 (λ e. omega arith)) (ap (λ (n : ℕ). n % 2 * 256) (and_zero_r ((suc x + 255) / 2 ^ 8)))
reached (suc x) (suc y) hx hy =
    let p : (suc x + 255) / 2 ^ 8 ≡ 1 = omega arith in
    let q : (suc y + 255) / 2 ^ 8 ≡ 1 = omega arith in
    rw (ne_eqb (suc x) 0 (λ e. omega arith), ne_eqb (suc y) 0 (λ e. omega arith)) (λ i. bit_and (p i) (q i) % 2 * 256)

carried : (x y : ℕ) → x < 256 → y < 256 → bit_and (bit_and (x + 255) (y + 255)) 256 ≡ 256 * (1 - zero_bit x y)
carried x y hx hy =
    and_high (bit_and (x + 255) (y + 255)) 1 8 ∙ ap (λ (n : ℕ). n % 2 * 256) (and_shr (x + 255) (y + 255) 8) ∙ reached x y hx hy

abbrev raised : Four 256 → Four (2 ^ 16)
raised x = four (x.a + 255) (x.b + 255) (x.c + 255) (x.d + 255) (omega arith) (omega arith) (omega arith) (omega arith)

-- the bits that both bytes of a record reach
carry_lanes : (x y : Four 256)
    → bit_and (bit_and (word x + byte_mask) (word y + byte_mask)) carry_mask
    ≡ lanes (256 * (1 - zero_bit x.a y.a)) (256 * (1 - zero_bit x.b y.b)) (256 * (1 - zero_bit x.c y.c)) (256 * (1 - zero_bit x.d y.d))
carry_lanes x y =
    let e : word x + byte_mask ≡ word (raised x) = omega arith in
    let o : word y + byte_mask ≡ word (raised y) = omega arith in
    (λ i. bit_and (bit_and (e i) (o i)) carry_mask)
    ∙ ap (λ (n : ℕ). bit_and n carry_mask) (and_lanes (raised x) (raised y))
    ∙ and_lanes (raised x & raised y) (each 256 (omega arith))
    ∙ lanes_cong
    (carried x.a y.a x.a_lt y.a_lt) (carried x.b y.b x.b_lt y.b_lt)
    (carried x.c y.c x.c_lt y.c_lt) (carried x.d y.d x.d_lt y.d_lt)

-- those of a word
pub carries_8 : (w : ℕ)
    → bit_and (bit_and (bit_and w byte_mask + byte_mask) (bit_and (w / 2 ^ 8) byte_mask + byte_mask)) carry_mask
    ≡ lanes (256 * (1 - zero_bit (w % 256) (w / 2 ^ 8 % 256))) (256 * (1 - zero_bit (w / 2 ^ 16 % 256) (w / 2 ^ 24 % 256)))
    (256 * (1 - zero_bit (w / 2 ^ 32 % 256) (w / 2 ^ 40 % 256))) (256 * (1 - zero_bit (w / 2 ^ 48 % 256) (w / 2 ^ 56 % 256)))
carries_8 w = (λ i. bit_and (bit_and (byte_parts w i + byte_mask) (second_parts w i + byte_mask)) carry_mask) ∙ carry_lanes (first w) (second w)

-- the code's steps in zero_nibble: four bits, a lane apart, put side by side
abbrev pub gather : ℕ → ℕ
gather z = bit_and (z + z / 2 ^ 15 + z / 2 ^ 30 + z / 2 ^ 45) 15

pub gathered : (a b c d : ℕ) → a < 2 → b < 2 → c < 2 → d < 2 → gather (lanes a b c d) ≡ a + 2 * (b + 2 * (c + 2 * (d + 2 * 0)))
gathered a b c d ha hb hc hd =
    let w : ℕ = lanes a b c d in
    let high : ℕ = 2 ^ 12 * b + (2 ^ 28 + 2 ^ 13) * c + (2 ^ 44 + 2 ^ 29 + 2 ^ 14) * d in
    let p : w / 2 ^ 15 ≡ 2 * b + 2 ^ 17 * c + 2 ^ 33 * d = omega arith in
    let r : w / 2 ^ 30 ≡ 4 * c + 2 ^ 18 * d = omega arith in
    let s : w / 2 ^ 45 ≡ 8 * d = omega arith in
    let sum : w + (2 * b + 2 ^ 17 * c + 2 ^ 33 * d) + (4 * c + 2 ^ 18 * d) + 8 * d ≡ high * 2 ^ 4 + (a + 2 * (b + 2 * (c + 2 * (d + 2 * 0)))) = omega arith in
    and_mask (w + w / 2 ^ 15 + w / 2 ^ 30 + w / 2 ^ 45) 4
    ∙ (λ i. (w + p i + r i + s i) % 2 ^ 4) ∙ ap (λ (n : ℕ). n % 2 ^ 4) sum ∙ low high 4 (omega arith)

-- ---- the lowest record of a mask

-- the first bit is the lowest, or the lowest of those above it, one further up
lowest_step : (bit z : ℕ) → bit < 2 → under bit z ≡ cond (eqb bit 1) 0 (suc z)
lowest_step zero z h = refl
lowest_step (suc zero) z h = refl
lowest_step (suc (suc bit)) z h = absurd (omega arith)

-- the zeros below it are as many as its number
pub trailing_lowest : (n m : ℕ) → count_trailing_zeros n m ≡ lowest n m
unfolding count_trailing_zeros lowest
trailing_lowest zero m = refl
trailing_lowest (suc n) m = rw (trailing_lowest n (m / 2)) (lowest_step (m % 2) (lowest n (m / 2)) (omega arith))

-- ---- running sums

-- the code's steps: each lane takes the lane below, then the two lanes below that
abbrev pub take_1 : ℕ → ℕ
take_1 e = e + (e * 2 ^ 16) % 2 ^ 64

abbrev pub take_2 : ℕ → ℕ
take_2 s = s + (s * 2 ^ 32) % 2 ^ 64

module _ (a b c d : ℕ) (ha : a < 2 ^ 11) (hb : b < 2 ^ 11) (hc : c < 2 ^ 11) (hd : d < 2 ^ 11) where
  twos : take_1 (lanes a b c d) ≡ lanes a (a + b) (b + c) (c + d)
  twos =
      let p : lanes a b c d * 2 ^ 16 ≡ d * 2 ^ 64 + lanes 0 a b c = omega arith in
      ap (λ (n : ℕ). lanes a b c d + n) (ap (λ (n : ℕ). n % 2 ^ 64) p ∙ low d 64 (omega arith)) ∙ omega arith

  fours : take_2 (lanes a (a + b) (b + c) (c + d)) ≡ lanes a (a + b) (a + b + c) (a + b + c + d)
  fours =
      let q : ℕ = (c + d) * 2 ^ 16 + (b + c) in
      let p : lanes a (a + b) (b + c) (c + d) * 2 ^ 32 ≡ q * 2 ^ 64 + lanes 0 0 a (a + b) = omega arith in
      ap (λ (n : ℕ). lanes a (a + b) (b + c) (c + d) + n) (ap (λ (n : ℕ). n % 2 ^ 64) p ∙ low q 64 (omega arith)) ∙ omega arith

  both_taken : take_2 (take_1 (lanes a b c d)) ≡ lanes a (a + b) (a + b + c) (a + b + c + d)
  both_taken = ap take_2 twos ∙ fours

  -- both steps fit, and the highest lane has the sum of all
  pub summed : (take_1 (lanes a b c d) < 2 ^ 64) × (take_2 (take_1 (lanes a b c d)) < 2 ^ 64) × (take_2 (take_1 (lanes a b c d)) / 2 ^ 48 ≡ a + b + c + d)
  summed = (rw twos (omega arith), rw both_taken (omega arith), ap (λ (n : ℕ). n / 2 ^ 48) both_taken ∙ omega arith)

-- four bytes, each × 8, and the sums of all up to each
module _ (q : Four 256) where
  abbrev eights : Four (2 ^ 16)
  eights = four (8 * q.a) (8 * q.b) (8 * q.c) (8 * q.d) (omega arith) (omega arith) (omega arith) (omega arith)

  abbrev sums : Four (2 ^ 16)
  sums =
      four (0 + 8 * q.a) (0 + 8 * q.a + 8 * q.b) (0 + 8 * q.a + 8 * q.b + 8 * q.c) (0 + 8 * q.a + 8 * q.b + 8 * q.c + 8 * q.d)
      (omega arith) (omega arith) (omega arith) (omega arith)

sums_8 : (w : ℕ) → lanes_of (running 0 (firsts (bytes 8 w))) ≡ word (sums (first w))
unfolding lanes_of running
sums_8 w = ap (λ (l : List ℕ). lanes_of (running 0 l)) (firsts_8 w) ∙ omega arith

-- the code's first step in lane_sums
abbrev times_8 : ℕ → ℕ
times_8 m = (m * 2 ^ 3) % 2 ^ 64

module _ (w : ℕ) where
  eights_word : times_8 (bit_and w byte_mask) ≡ word (eights (first w))
  eights_word = ap times_8 (byte_parts w) ∙ ap (λ (n : ℕ). n % 2 ^ 64) (omega arith) ∙ low 0 64 (word_lt (eights (first w)))

  fit : (n : ℕ) → 8 * (n % 256) < 2 ^ 11
  fit n = omega arith

  pub take_1_fits : take_1 (times_8 (bit_and w byte_mask)) < 2 ^ 64
  take_1_fits = rw eights_word (summed _ _ _ _ (fit w) (fit (w / 2 ^ 16)) (fit (w / 2 ^ 32)) (fit (w / 2 ^ 48))).0

  pub take_2_fits : take_2 (take_1 (times_8 (bit_and w byte_mask))) < 2 ^ 64
  take_2_fits = rw eights_word (summed _ _ _ _ (fit w) (fit (w / 2 ^ 16)) (fit (w / 2 ^ 32)) (fit (w / 2 ^ 48))).1

  -- the running sums of a word's first bytes
  pub running_word : take_2 (take_1 (times_8 (bit_and w byte_mask))) ≡ lanes_of (running 0 (firsts (bytes 8 w)))
  running_word =
      ap (λ (n : ℕ). take_2 (take_1 n)) eights_word
      ∙ both_taken _ _ _ _ (fit w) (fit (w / 2 ^ 16)) (fit (w / 2 ^ 32)) (fit (w / 2 ^ 48))
      ∙ omega arith ∙ sym (sums_8 w)

-- what first_sums makes of the lanes of two words
abbrev pub eight_sums : ℕ → ℕ → List ℕ
eight_sums a b =
    bit_and a 65535 ∷ bit_and (a / 2 ^ 16) 65535 ∷ bit_and (a / 2 ^ 32) 65535 ∷ a / 2 ^ 48
    ∷ (a / 2 ^ 48 + bit_and b 65535) ∷ (a / 2 ^ 48 + bit_and (b / 2 ^ 16) 65535)
    ∷ (a / 2 ^ 48 + bit_and (b / 2 ^ 32) 65535) ∷ (a / 2 ^ 48 + b / 2 ^ 48)
    ∷ []

list_cong : {a b c d a' b' c' d' : ℕ} → a ≡ a' → b ≡ b' → c ≡ c' → d ≡ d' → a ∷ b ∷ c ∷ d ∷ [] ≡ a' ∷ b' ∷ c' ∷ d' ∷ []
list_cong p q r s i = p i ∷ q i ∷ r i ∷ s i ∷ []

eight_are : (p q : Four 256) → eight_sums (word (sums p)) (word (sums q)) ≡ running 0 (list p ++ list q)
unfolding running
eight_are p q =
    (λ i.
    lane_0 (sums p) i ∷ lane_1 (sums p) i ∷ lane_2 (sums p) i ∷ lane_3 (sums p) i
    ∷ (lane_3 (sums p) i + lane_0 (sums q) i) ∷ (lane_3 (sums p) i + lane_1 (sums q) i)
    ∷ (lane_3 (sums p) i + lane_2 (sums q) i) ∷ (lane_3 (sums p) i + lane_3 (sums q) i)
    ∷ [])
    ∙ ap (λ (l : List ℕ). list (sums p) ++ l) (list_cong (omega arith) (omega arith) (omega arith) (omega arith))

-- the running sums of a block's first bytes
pub running_block : (lo hi : ℕ)
    → eight_sums (lanes_of (running 0 (firsts (bytes 8 lo)))) (lanes_of (running 0 (firsts (bytes 8 hi))))
    ≡ running 0 (firsts (bytes 8 lo ++ bytes 8 hi))
unfolding firsts
running_block lo hi =
    (λ i. eight_sums (sums_8 lo i) (sums_8 hi i)) ∙ eight_are (first lo) (first hi)
    ∙ sym (λ i. running 0 (firsts (bytes_8 lo i ++ bytes_8 hi i)))
