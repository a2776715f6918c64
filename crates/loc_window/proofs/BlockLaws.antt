-- Eight bytes of a slice as a word, and the bytes of a block in the copy.
-- What a block's words say of its records, they say of the copy's.
use Prim.Native.Nat.{ℕ, zero, suc, ◌+◌, ◌*◌, ◌/◌, ◌%◌, ◌^◌, ◌<◌, ◌≤◌}
use mathlib.Core.Path.{◌≡◌, refl, sym, ap, ◌∙◌}
use mathlib.Core.Bool.{cond}
use mathlib.Core.List.{List, [], ◌∷◌, ◌++◌}
use native.Mathlib.Numerals.{add-one}
use native.Mathlib.Nat.{add-zero, zero-add}
use native.Mathlib.Omega.{arith}
use lib.Pow.{shr-shr, low, high}
use lib.ListN.{length, get_or, take, drop}
use lib.Seq.{drop-cons, get_or-take, get_or-drop, take-add, drop-drop}
use Rattle.loc_leaf.specs.declared.Kind.{Kind}
use Rattle.std.specs.Int.{from_le_bytes, w64}
use Rattle.loc_leaf.specs.Bytes.{Bytes, byte, bytes}
use Rattle.loc_leaf.specs.Slot.{needs_row, inline}
use Rattle.loc_leaf.specs.Block.{slot_bytes, row_bit, row_mask, sum_from, inline_strides, inline_spans}
use Rattle.loc_leaf.proofs.Lanes.{bytes_8}

-- ---- eight bytes

abbrev pub flat : ℕ → ℕ → ℕ → ℕ → ℕ → ℕ → ℕ → ℕ → ℕ
flat a b c d e f g h =
    a + b * 0x100 + c * 0x1_0000 + d * 0x100_0000 + e * 0x1_0000_0000 + f * 0x100_0000_0000 + g * 0x1_0000_0000_0000 + h * 0x100_0000_0000_0000

-- what is above the lowest byte, and the byte
up : (w k v b : ℕ) → w / 2 ^ k ≡ v * 2 ^ 8 + b → b < 2 ^ 8 → w / 2 ^ (k + 8) ≡ v
up w k v b e h = sym (shr-shr w k 8) ∙ ap (λ (n : ℕ). n / 2 ^ 8) e ∙ high v 8 h

digit : (n v b : ℕ) → n ≡ v * 2 ^ 8 + b → b < 2 ^ 8 → n % 256 ≡ b
digit n v b e h = ap (λ (m : ℕ). m % 256) e ∙ low v 8 h

zeros : (h : ℕ) → h ≡ 0 * 2 ^ 8 + h
zeros h = omega arith

flat_bytes : (a b c d e f g h : ℕ) → a < 256 → b < 256 → c < 256 → d < 256 → e < 256 → f < 256 → g < 256 → h < 256
    → bytes 8 (flat a b c d e f g h) ≡ a ∷ b ∷ c ∷ d ∷ e ∷ f ∷ g ∷ h ∷ []
flat_bytes a b c d e f g h ha hb hc hd he hf hg hh =
    let w : ℕ = flat a b c d e f g h in
    let v₆ : ℕ = h * 2 ^ 8 + g in
    let v₅ : ℕ = v₆ * 2 ^ 8 + f in
    let v₄ : ℕ = v₅ * 2 ^ 8 + e in
    let v₃ : ℕ = v₄ * 2 ^ 8 + d in
    let v₂ : ℕ = v₃ * 2 ^ 8 + c in
    let v₁ : ℕ = v₂ * 2 ^ 8 + b in
    let p₀ : w ≡ v₁ * 2 ^ 8 + a = omega arith in
    let p₁ : w / 2 ^ 8 ≡ v₁ = ap (λ (n : ℕ). n / 2 ^ 8) p₀ ∙ high v₁ 8 ha in
    let p₂ : w / 2 ^ 16 ≡ v₂ = up w 8 v₂ b p₁ hb in
    let p₃ : w / 2 ^ 24 ≡ v₃ = up w 16 v₃ c p₂ hc in
    let p₄ : w / 2 ^ 32 ≡ v₄ = up w 24 v₄ d p₃ hd in
    let p₅ : w / 2 ^ 40 ≡ v₅ = up w 32 v₅ e p₄ he in
    let p₆ : w / 2 ^ 48 ≡ v₆ = up w 40 v₆ f p₅ hf in
    let p₇ : w / 2 ^ 56 ≡ h = up w 48 h g p₆ hg in
    bytes_8 w
    ∙ (λ i.
    digit w v₁ a p₀ ha i ∷ digit (w / 2 ^ 8) v₂ b p₁ hb i ∷ digit (w / 2 ^ 16) v₃ c p₂ hc i ∷ digit (w / 2 ^ 24) v₄ d p₃ hd i
    ∷ digit (w / 2 ^ 32) v₅ e p₄ he i ∷ digit (w / 2 ^ 40) v₆ f p₅ hf i ∷ digit (w / 2 ^ 48) h g p₆ hg i ∷ digit (w / 2 ^ 56) 0 h (p₇ ∙ zeros h) hh i
    ∷ [])

next : (s : List ℕ) (n i j : ℕ) → i + 1 ≡ j → i < length s → take (suc n) (drop i s) ≡ get_or s i 0 ∷ take n (drop j s)
next s n i j e h = ap (take (suc n)) (drop-cons s i 0 h) ∙ ap (λ (m : ℕ). get_or s i 0 ∷ take n (drop m s)) (sym (add-one i) ∙ e)

-- eight entries of a list, one by one
pub eight_of : (s : List ℕ) (i : ℕ) → i + 8 ≤ length s
    → take 8 (drop i s)
    ≡ get_or s i 0 ∷ get_or s (i + 1) 0 ∷ get_or s (i + 2) 0 ∷ get_or s (i + 3) 0 ∷ get_or s (i + 4) 0 ∷ get_or s (i + 5) 0 ∷ get_or s (i + 6) 0 ∷ get_or s (i + 7) 0 ∷ []
eight_of s i h =
    next s 7 i (i + 1) refl (omega arith)
    ∙ ap (λ (l : List ℕ). get_or s i 0 ∷ l) (next s 6 (i + 1) (i + 2) (omega arith) (omega arith)
    ∙ ap (λ (l : List ℕ). get_or s (i + 1) 0 ∷ l) (next s 5 (i + 2) (i + 3) (omega arith) (omega arith)
    ∙ ap (λ (l : List ℕ). get_or s (i + 2) 0 ∷ l) (next s 4 (i + 3) (i + 4) (omega arith) (omega arith)
    ∙ ap (λ (l : List ℕ). get_or s (i + 3) 0 ∷ l) (next s 3 (i + 4) (i + 5) (omega arith) (omega arith)
    ∙ ap (λ (l : List ℕ). get_or s (i + 4) 0 ∷ l) (next s 2 (i + 5) (i + 6) (omega arith) (omega arith)
    ∙ ap (λ (l : List ℕ). get_or s (i + 5) 0 ∷ l) (next s 1 (i + 6) (i + 7) (omega arith) (omega arith)
    ∙ ap (λ (l : List ℕ). get_or s (i + 6) 0 ∷ l) (next s 0 (i + 7) (i + 8) (omega arith) (omega arith))))))))

-- a word that they spell
pub word_bytes : (s bs : List ℕ) (i r : ℕ) → i + 8 ≤ length s → ((u : ℕ) → get_or s u 0 < 256) → bs ≡ take 8 (drop i s) → r ≡ from_le_bytes w64 bs
    → bytes 8 r ≡ take 8 (drop i s)
word_bytes s bs i r h b q e =
    ap (bytes 8) (e ∙ ap (from_le_bytes w64) (q ∙ eight_of s i h))
    ∙ flat_bytes (get_or s i 0) (get_or s (i + 1) 0) (get_or s (i + 2) 0) (get_or s (i + 3) 0) (get_or s (i + 4) 0) (get_or s (i + 5) 0) (get_or s (i + 6) 0) (get_or s (i + 7) 0)
    (b i) (b (i + 1)) (b (i + 2)) (b (i + 3)) (b (i + 4)) (b (i + 5)) (b (i + 6)) (b (i + 7))
    ∙ sym (eight_of s i h)

-- ---- the block's bytes in the copy

-- two functions that agree from i and from j on, for n numbers
abbrev pub Agree : (ℕ → ℕ) → (ℕ → ℕ) → ℕ → ℕ → ℕ → Type 0
Agree f g i j n = (t : ℕ) → t < n → f (i + t) ≡ g (j + t)

pub agree_here : (f g : ℕ → ℕ) (i j n : ℕ) → Agree f g i j (suc n) → f i ≡ g j
agree_here f g i j n e = ap f (sym (add-zero i)) ∙ e 0 (omega arith) ∙ ap g (add-zero j)

pub agree_next : (f g : ℕ → ℕ) (i j n : ℕ) → Agree f g i j (suc n) → Agree f g (i + 1) (j + 1) n
agree_next f g i j n e t h =
    let at : (k : ℕ) → k + 1 + t ≡ k + suc t = (λ k. omega arith) in
    ap f (at i) ∙ e (suc t) (omega arith) ∙ ap g (sym (at j))

pub sum_same : (f g : ℕ → ℕ) (i j n : ℕ) → Agree f g i j n → sum_from f i n ≡ sum_from g j n
unfolding sum_from
sum_same f g i j zero e = refl
sum_same f g i j (suc n) e = (λ x. agree_here f g i j n e x + sum_same f g (i + 1) (j + 1) n (agree_next f g i j n e) x)

mask_same : (kd : Kind) (a b : Bytes) (i j n : ℕ) → Agree (row_bit kd a) (row_bit kd b) i j n → row_mask kd a i n ≡ row_mask kd b j n
unfolding row_mask
mask_same kd a b i j zero e = refl
mask_same kd a b i j (suc n) e =
    (λ x. agree_here (row_bit kd a) (row_bit kd b) i j n e x + 2 * mask_same kd a b (i + 1) (j + 1) n (agree_next (row_bit kd a) (row_bit kd b) i j n e) x)

-- n records that stand in the copy from record k on
module _ (s : Bytes) (k n : ℕ) (part : Bytes) (e : part ≡ take (2 * n) (drop (2 * k) s)) where
  part_byte : (u : ℕ) → u < 2 * n → byte u part ≡ byte (2 * k + u) s
  part_byte u h = ap (byte u) e ∙ get_or-take (2 * n) (drop (2 * k) s) u 0 h ∙ get_or-drop (2 * k) s u 0

  -- record t of the part is record k + t of the copy
  part_slot : (t : ℕ) → t < n → slot_bytes part t ≡ slot_bytes s (k + t)
  part_slot t h =
      let p : 2 * k + 2 * t ≡ 2 * (k + t) = omega arith in
      let q : 2 * k + (2 * t + 1) ≡ 2 * (k + t) + 1 = omega arith in
      let x : byte (2 * t) part ≡ byte (2 * (k + t)) s = part_byte (2 * t) (omega arith) ∙ ap (λ (u : ℕ). byte u s) p in
      let y : byte (2 * t + 1) part ≡ byte (2 * (k + t) + 1) s = part_byte (2 * t + 1) (omega arith) ∙ ap (λ (u : ℕ). byte u s) q in
      (λ i. x i ∷ y i ∷ [])

  pub part_agree : (g : Bytes → ℕ) → Agree (λ i. g (slot_bytes part i)) (λ i. g (slot_bytes s i)) 0 k n
  part_agree g t h = ap (λ (u : ℕ). g (slot_bytes part u)) (zero-add t) ∙ ap g (part_slot t h)

  pub part_sum : (g : Bytes → ℕ) → sum_from (λ i. g (slot_bytes part i)) 0 n ≡ sum_from (λ i. g (slot_bytes s i)) k n
  part_sum g = sum_same _ _ 0 k n (part_agree g)

module _ (s : Bytes) (k lo hi : ℕ) (el : bytes 8 lo ≡ take 8 (drop (2 * k) s)) (eh : bytes 8 hi ≡ take 8 (drop (2 * k + 8) s)) where
  block_is : bytes 8 lo ++ bytes 8 hi ≡ take 16 (drop (2 * k) s)
  block_is = (λ i. el i ++ (eh ∙ ap (take 8) (sym (drop-drop 8 (2 * k) s))) i) ∙ sym (take-add 8 8 (drop (2 * k) s))

  pub slots_agree : (g : Bytes → ℕ) → Agree (λ i. g (slot_bytes (bytes 8 lo ++ bytes 8 hi) i)) (λ i. g (slot_bytes s i)) 0 k 8
  slots_agree = part_agree s k 8 (bytes 8 lo ++ bytes 8 hi) block_is

  pub block_strides : (kd : Kind) → inline_strides kd (bytes 8 lo ++ bytes 8 hi) 0 8 ≡ inline_strides kd s k 8
  block_strides kd = sum_same _ _ 0 k 8 (slots_agree (λ l. (inline kd l).strides))

  pub block_spans : (kd : Kind) → inline_spans kd (bytes 8 lo ++ bytes 8 hi) 0 8 ≡ inline_spans kd s k 8
  block_spans kd = sum_same _ _ 0 k 8 (slots_agree (λ l. (inline kd l).spans))

  pub block_mask : (kd : Kind) → row_mask kd (bytes 8 lo ++ bytes 8 hi) 0 8 ≡ row_mask kd s k 8
  block_mask kd = mask_same kd (bytes 8 lo ++ bytes 8 hi) s 0 k 8 (slots_agree (λ l. cond (needs_row kd l) 1 0))
