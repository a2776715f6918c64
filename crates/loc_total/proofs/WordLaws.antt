-- Lanes that are added up, and what one word more adds to them.
-- The word has the slots of four records, from record 4 × i on.
use Prim.Native.Nat.{ℕ, ◌+◌, ◌-◌, ◌*◌, ◌/◌, ◌%◌, ◌^◌, ◌≤◌, ◌<◌}
use mathlib.Core.Path.{◌≡◌, refl, sym, ap, ◌∙◌, subst}
use mathlib.Core.Bool.{cond}
use mathlib.Core.List.{[], ◌∷◌, ◌++◌}
use native.Mathlib.Nat.{le_antisymm}
use native.Mathlib.Omega.{arith}
use lib.Bits.{bit_and}
use lib.ListN.{take, drop}
use lib.Pow.{low}
use Rattle.loc_leaf.specs.declared.Kind.{Kind}
use Rattle.loc_leaf.specs.declared.Kind.TheVariants.{Paired, Single}
use Rattle.loc_leaf.specs.Bytes.{Bytes, bytes}
use Rattle.loc_leaf.specs.Block.{slot_bytes, row_bit, sum_from, inline_strides, inline_spans}
use Rattle.loc_leaf.specs.Slot.{needs_row, inline}
use Rattle.loc_leaf.proofs.Lanes.{byte_mask, carry_mask, bytes_8, byte_parts, second_parts, bit_lt}
use Rattle.loc_leaf.proofs.BlockLaws.{word_mask, word_parts, odd_parts, low_bytes, two_bytes, records_are}
use Rattle.loc_leaf.proofs.MaskLaws.{Full, word_carries, Even, odd_is}
use Rattle.loc_window.proofs.BlockLaws.{part_sum}
use Rattle.loc_total.specs.declared.Total.{Total}
use Rattle.loc_total.specs.Slots.{needing, SlotTotal, Four, Two, PairWords, SingleWords}
use Rattle.loc_total.proofs.SumLaws.{sum_zero, sum_more, bits_low}

-- ---- lanes

four_none : Four 0 0 0
four_none = record { a = 0; b = 0; c = 0; d = 0; is = refl; sum = refl; low = (omega arith, omega arith, omega arith, omega arith) }

two_none : Two 0 0 0
two_none = record { a = 0; b = 0; is = refl; sum = refl; low = (omega arith, omega arith) }

four_add : (u x s v y t u' s' : ℕ) → Four u x s → Four v y t → u + v ≡ u' → s + t ≡ s' → Four u' (x + y) s'
four_add u x s v y t u' s' p q e f =
    record {
      a = p.a + q.a;
      b = p.b + q.b;
      c = p.c + q.c;
      d = p.d + q.d;
      is = omega (arith, p.is, q.is);
      sum = omega (arith, p.sum, q.sum);
      low = (omega (arith, p.low.0, q.low.0), omega (arith, p.low.1, q.low.1), omega (arith, p.low.2, q.low.2), omega (arith, p.low.3, q.low.3));
    }

two_add : (u x s v y t u' s' : ℕ) → Two u x s → Two v y t → u + v ≡ u' → s + t ≡ s' → Two u' (x + y) s'
two_add u x s v y t u' s' p q e f =
    record {
      a = p.a + q.a;
      b = p.b + q.b;
      is = omega (arith, p.is, q.is);
      sum = omega (arith, p.sum, q.sum);
      low = (omega (arith, p.low.0, q.low.0), omega (arith, p.low.1, q.low.1));
    }

-- v more fit each lane
four_room : (u v x s : ℕ) → Four u x s → u + v < 2 ^ 16 → x + v * 0x0001_0001_0001_0001 < 2 ^ 64
four_room u v x s p h = omega (arith, p.is, p.low.0, p.low.1, p.low.2, p.low.3)

two_room : (u v x s : ℕ) → Two u x s → u + v < 2 ^ 32 → x + v * 0x0000_0001_0000_0001 < 2 ^ 64
two_room u v x s p h = omega (arith, p.is, p.low.0, p.low.1)

-- the sum of the lanes, as strides_total gives it
abbrev pub LaneSum : ℕ → ℕ → Type 0
LaneSum x r = r ≡ inline_strides Single (bytes 8 x ++ bytes 8 0) 0 8

four_total : (u x s r : ℕ) → Four u x s → u < 2 ^ 16 → LaneSum x r → r ≡ s
four_total u x s r p h e =
    let is = p.is in
    let ha = p.low.0 in
    let hb = p.low.1 in
    let hc = p.low.2 in
    let hd = p.low.3 in
    let vb : x / 2 ^ 16 ≡ (p.d * 2 ^ 16 + p.c) * 2 ^ 16 + p.b = omega arith in
    let vc : x / 2 ^ 32 ≡ p.d * 2 ^ 16 + p.c = omega arith in
    let vd : x / 2 ^ 48 ≡ p.d = omega arith in
    let la : x % 2 ^ 16 ≡ p.a = ap (λ (n : ℕ). n % 2 ^ 16) is ∙ low ((p.d * 2 ^ 16 + p.c) * 2 ^ 16 + p.b) 16 (omega arith) in
    let lb : x / 2 ^ 16 % 2 ^ 16 ≡ p.b = ap (λ (n : ℕ). n % 2 ^ 16) vb ∙ low (p.d * 2 ^ 16 + p.c) 16 (omega arith) in
    let lc : x / 2 ^ 32 % 2 ^ 16 ≡ p.c = ap (λ (n : ℕ). n % 2 ^ 16) vc ∙ low p.d 16 (omega arith) in
    let ld : x / 2 ^ 48 % 2 ^ 16 ≡ p.d = ap (λ (n : ℕ). n % 2 ^ 16) (vd ∙ omega arith) ∙ low 0 16 (omega arith) in
    omega (arith, la, lb, lc, ld, p.sum, records_are x 0)

-- ---- one word

module _ (s : Bytes) (i w : ℕ) (e : bytes 8 w ≡ take 8 (drop (8 * i) s)) where
  -- what its slots give, added up
  word_sum : (g : Bytes → ℕ) → g (slot_bytes (bytes 8 w) 0) + g (slot_bytes (bytes 8 w) 1) + g (slot_bytes (bytes 8 w) 2) + g (slot_bytes (bytes 8 w) 3) ≡ sum_from (λ t. g (slot_bytes s t)) (4 * i) 4
  unfolding sum_from
  word_sum g =
      let p : 8 * i ≡ 2 * (4 * i) = omega arith in
      let q : sum_from (λ t. g (slot_bytes (bytes 8 w) t)) 0 4 ≡ sum_from (λ t. g (slot_bytes s t)) (4 * i) 4 = part_sum s (4 * i) 4 (bytes 8 w) (e ∙ ap (λ (n : ℕ). take 8 (drop n s)) p) g in
      omega (arith, q)

  -- by its bytes
  byte_sum : (g : Bytes → ℕ)
      → g (w % 256 ∷ w / 2 ^ 8 % 256 ∷ []) + g (w / 2 ^ 16 % 256 ∷ w / 2 ^ 24 % 256 ∷ []) + g (w / 2 ^ 32 % 256 ∷ w / 2 ^ 40 % 256 ∷ []) + g (w / 2 ^ 48 % 256 ∷ w / 2 ^ 56 % 256 ∷ [])
      ≡ sum_from (λ t. g (slot_bytes s t)) (4 * i) 4
  byte_sum g = sym (λ j. g (slot_bytes (bytes_8 w j) 0) + g (slot_bytes (bytes_8 w j) 1) + g (slot_bytes (bytes_8 w j) 2) + g (slot_bytes (bytes_8 w j) 3)) ∙ word_sum g

  -- the first bytes of its records, and the second
  pub four_strides : Four 255 (bit_and w byte_mask) (inline_strides Paired s (4 * i) 4)
  unfolding inline
  four_strides =
      record {
        a = w % 256;
        b = w / 2 ^ 16 % 256;
        c = w / 2 ^ 32 % 256;
        d = w / 2 ^ 48 % 256;
        is = byte_parts w;
        sum = byte_sum (λ l. (inline Paired l).strides);
        low = (omega arith, omega arith, omega arith, omega arith);
      }

  pub four_spans : Four 255 (bit_and (w / 2 ^ 8) byte_mask) (inline_spans Paired s (4 * i) 4)
  unfolding inline
  four_spans =
      record {
        a = w / 2 ^ 8 % 256;
        b = w / 2 ^ 24 % 256;
        c = w / 2 ^ 40 % 256;
        d = w / 2 ^ 56 % 256;
        is = second_parts w;
        sum = byte_sum (λ l. (inline Paired l).spans);
        low = (omega arith, omega arith, omega arith, omega arith);
      }

  -- which of them need no row
  pub four_full : (r : ℕ) → Full w r → Four 1 (r / 2 ^ 8) (4 - sum_from (row_bit Paired s) (4 * i) 4)
  four_full r f =
      let p = bit_lt (needs_row Paired (slot_bytes (bytes 8 w) 0)) in
      let q = bit_lt (needs_row Paired (slot_bytes (bytes 8 w) 1)) in
      let u = bit_lt (needs_row Paired (slot_bytes (bytes 8 w) 2)) in
      let v = bit_lt (needs_row Paired (slot_bytes (bytes 8 w) 3)) in
      record {
        a = 1 - row_bit Paired (bytes 8 w) 0;
        b = 1 - row_bit Paired (bytes 8 w) 1;
        c = 1 - row_bit Paired (bytes 8 w) 2;
        d = 1 - row_bit Paired (bytes 8 w) 3;
        is = omega arith;
        sum = omega (arith, word_sum (λ l. cond (needs_row Paired l) 1 0));
        low = (omega arith, omega arith, omega arith, omega arith);
      }

  -- the sixteen bits of its records, and which of them are not all 0
  pub two_strides : Two 131070 (bit_and w word_mask + bit_and (w / 2 ^ 16) word_mask) (inline_strides Single s (4 * i) 4)
  unfolding inline
  two_strides =
      record {
        a = w % 2 ^ 16 + w / 2 ^ 16 % 2 ^ 16;
        b = w / 2 ^ 32 % 2 ^ 16 + w / 2 ^ 48 % 2 ^ 16;
        is = omega (arith, word_parts w, odd_parts w);
        sum = omega (arith, low_bytes w, two_bytes w 16, two_bytes w 32, two_bytes w 48, byte_sum (λ l. (inline Single l).strides));
        low = (omega arith, omega arith);
      }

  pub two_full : (a b : ℕ) → Even w a → Even (w / 2 ^ 16) b → Two 131072 (a + b) (65536 * (4 - sum_from (row_bit Single s) (4 * i) 4))
  two_full a b f g =
      let p = bit_lt (needs_row Single (slot_bytes (bytes 8 w) 0)) in
      let q = bit_lt (needs_row Single (slot_bytes (bytes 8 w) 1)) in
      let u = bit_lt (needs_row Single (slot_bytes (bytes 8 w) 2)) in
      let v = bit_lt (needs_row Single (slot_bytes (bytes 8 w) 3)) in
      let o = odd_is w a b f g in
      record {
        a = 65536 * (2 - (row_bit Single (bytes 8 w) 0 + row_bit Single (bytes 8 w) 1));
        b = 65536 * (2 - (row_bit Single (bytes 8 w) 2 + row_bit Single (bytes 8 w) 3));
        is = omega arith;
        sum = omega (arith, word_sum (λ l. cond (needs_row Single l) 1 0));
        low = (omega arith, omega arith);
      }

-- ---- some words

module _ (s : Bytes) where
  pub pair_none : PairWords s 0 0 0 0
  unfolding sum_from
  pair_none = record { strides = four_none; spans = four_none; full = four_none }

  pub single_none : SingleWords s 0 0 0
  unfolding sum_from
  single_none = record { strides = two_none; full = two_none }

  -- those of i words and one more
  module _ (i : ℕ) where
    more : (g : ℕ → ℕ) → sum_from g 0 (4 * i) + sum_from g (4 * i) 4 ≡ sum_from g 0 (4 * (i + 1))
    more g = sym (sum_more g (4 * i) 4 (4 * (i + 1)) (omega arith))

    full_more : (k : Kind) → (4 * i - needing k s (4 * i)) + (4 - sum_from (row_bit k s) (4 * i) 4) ≡ 4 * (i + 1) - needing k s (4 * (i + 1))
    full_more k = omega (arith, more (row_bit k s), bits_low k s 0 (4 * i), bits_low k s (4 * i) 4)

    module _ (w : ℕ) (e : bytes 8 w ≡ take 8 (drop (8 * i) s)) where
      pub pair_next : (x y z r : ℕ) → PairWords s i x y z → Full w r → PairWords s (i + 1) (x + bit_and w byte_mask) (y + bit_and (w / 2 ^ 8) byte_mask) (z + r / 2 ^ 8)
      pair_next x y z r p f =
          record {
            strides = four_add _ _ _ _ _ _ _ _ p.strides (four_strides s i w e) (omega arith) (more _);
            spans = four_add _ _ _ _ _ _ _ _ p.spans (four_spans s i w e) (omega arith) (more _);
            full = four_add _ _ _ _ _ _ _ _ p.full (four_full s i w e r f) refl (full_more Paired);
          }

      pub single_next : (x z a b : ℕ) → SingleWords s i x z → Even w a → Even (w / 2 ^ 16) b
          → SingleWords s (i + 1) (x + (bit_and w word_mask + bit_and (w / 2 ^ 16) word_mask)) (z + (a + b))
      single_next x z a b p f g =
          record {
            strides = two_add _ _ _ _ _ _ _ _ p.strides (two_strides s i w e) (omega arith) (more _);
            full = two_add _ _ _ _ _ _ _ _ p.full (two_full s i w e a b f g) (omega arith) (omega (arith, full_more Single));
          }

  -- one word more fits
  module _ (i n : ℕ) (l : i < n) (h : n ≤ 256) where
    pub pair_room : (x y z : ℕ) → PairWords s i x y z → (x + byte_mask < 2 ^ 64) × (y + byte_mask < 2 ^ 64) × (z + carry_mask / 2 ^ 8 < 2 ^ 64)
    pair_room x y z p =
        (four_room _ 255 _ _ p.strides (omega arith), four_room _ 255 _ _ p.spans (omega arith), four_room _ 1 _ _ p.full (omega arith))

    pub single_room : (x z : ℕ) → SingleWords s i x z → (x + 2 * word_mask < 2 ^ 64) × (z + 2 * word_carries < 2 ^ 64)
    single_room x z p = (two_room _ 131070 _ _ p.strides (omega arith), two_room _ 131072 _ _ p.full (omega arith))

  -- the sums of the lanes, where the loop has ended
  module _ (i n : ℕ) (l : i ≤ n) (g : n ≤ i) (h : n ≤ 256) (r : ℕ) where
    pub pair_total : (t : Total) (x y z : ℕ) → PairWords s i x y z → LaneSum x t.strides → LaneSum y t.spans → LaneSum z r → t.lacking ≡ 4 * n - r → SlotTotal Paired s (4 * n) t
    pair_total t x y z p ex ey ez el =
        let sx : t.strides ≡ inline_strides Paired s 0 (4 * i) = four_total _ _ _ _ p.strides (omega arith) ex in
        let sy : t.spans ≡ inline_spans Paired s 0 (4 * i) = four_total _ _ _ _ p.spans (omega arith) ey in
        let sz : r ≡ 4 * i - needing Paired s (4 * i) = four_total _ _ _ _ p.full (omega arith) ez in
        subst (λ (j : ℕ). SlotTotal Paired s (4 * j) t) (le_antisymm l g)
        (record {
          is_strides = sx;
          is_spans = sy;
          is_lacking = omega (arith, bits_low Paired s 0 (4 * i));
          strides_low = omega (arith, p.strides.sum, p.strides.low.0, p.strides.low.1, p.strides.low.2, p.strides.low.3);
          spans_low = omega (arith, p.spans.sum, p.spans.low.0, p.spans.low.1, p.spans.low.2, p.spans.low.3);
        })

    -- a single slot has no spans
    pub single_total : (t : Total) (x z : ℕ) → SingleWords s i x z → ((u q : ℕ) → Two u x q → u < 2 ^ 32 → t.strides ≡ q) → t.spans ≡ 0
        → ((u q : ℕ) → Two u z q → u < 2 ^ 32 → r ≡ q) → t.lacking ≡ 4 * n - r / 2 ^ 16 → SlotTotal Single s (4 * n) t
    unfolding inline
    single_total t x z p ex ey ez el =
        let sx : t.strides ≡ inline_strides Single s 0 (4 * i) = ex _ _ p.strides (omega arith) in
        let sz : r ≡ 65536 * (4 * i - needing Single s (4 * i)) = ez _ _ p.full (omega arith) in
        subst (λ (j : ℕ). SlotTotal Single s (4 * j) t) (le_antisymm l g)
        (record {
          is_strides = sx;
          is_spans = ey ∙ sym (sum_zero _ 0 (4 * i) (λ j. refl));
          is_lacking = omega (arith, bits_low Single s 0 (4 * i));
          strides_low = omega (arith, p.strides.sum, p.strides.low.0, p.strides.low.1);
          spans_low = omega arith;
        })

    -- no more need none than there are
    pub pair_kept : (x y z : ℕ) → PairWords s i x y z → LaneSum z r → r ≤ 4 * n
    pair_kept x y z p ez = let sz : r ≡ 4 * i - needing Paired s (4 * i) = four_total _ _ _ _ p.full (omega arith) ez in omega arith

    pub single_kept : (x z : ℕ) → SingleWords s i x z → ((u q : ℕ) → Two u z q → u < 2 ^ 32 → r ≡ q) → r / 2 ^ 16 ≤ 4 * n
    single_kept x z p ez = let sz : r ≡ 65536 * (4 * i - needing Single s (4 * i)) = ez _ _ p.full (omega arith) in omega arith
