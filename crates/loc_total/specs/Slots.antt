-- What the slots of some records add up to, with the bytes of those that need a row.
-- Numbers in the lanes of a word: how large each of them is, and their sum.
use Rattle.std.specs.Prelude.{ℕ, ◌+◌, ◌-◌, ◌*◌, ◌^◌, ◌≤◌, ◌≡◌}
use Rattle.loc_leaf.specs.declared.Kind.{Kind}
use Rattle.loc_leaf.specs.declared.Kind.TheVariants.{Paired, Single}
use Rattle.loc_leaf.specs.Bytes.{Bytes}
use Rattle.loc_leaf.specs.Block.{row_bit, sum_from, inline_strides, inline_spans}
use Rattle.loc_total.specs.declared.Total.{Total}

-- how many of the first n records need a row
abbrev pub needing : Kind → Bytes → ℕ → ℕ
needing k bytes n = sum_from (row_bit k bytes) 0 n

-- t is what the slots of the first n records add up to, and lacking counts those that need a row
pub record SlotTotal (k : Kind) (bytes : Bytes) (n : ℕ) (t : Total) : Type 0 where
  pub is_strides : t.strides ≡ inline_strides k bytes 0 n
  pub is_spans : t.spans ≡ inline_spans k bytes 0 n
  pub is_lacking : t.lacking ≡ needing k bytes n
  pub strides_low : t.strides ≤ n * 2 ^ 16
  pub spans_low : t.spans ≤ n * 2 ^ 16

-- ---- lanes

-- x has four numbers up to u in lanes of sixteen bits, whose sum is s
pub record Four (u x s : ℕ) : Type 0 where
  pub a : ℕ
  pub b : ℕ
  pub c : ℕ
  pub d : ℕ
  pub is : x ≡ ((d * 2 ^ 16 + c) * 2 ^ 16 + b) * 2 ^ 16 + a
  pub sum : a + b + c + d ≡ s
  pub low : (a ≤ u) × (b ≤ u) × (c ≤ u) × (d ≤ u)

-- and two in lanes of thirty-two
pub record Two (u x s : ℕ) : Type 0 where
  pub a : ℕ
  pub b : ℕ
  pub is : x ≡ b * 2 ^ 32 + a
  pub sum : a + b ≡ s
  pub low : (a ≤ u) × (b ≤ u)

-- the sums after n words: strides, spans, and the records that need no row
pub record PairWords (bytes : Bytes) (n x y z : ℕ) : Type 0 where
  pub strides : Four (255 * n) x (inline_strides Paired bytes 0 (4 * n))
  pub spans : Four (255 * n) y (inline_spans Paired bytes 0 (4 * n))
  pub full : Four n z (4 * n - needing Paired bytes (4 * n))

-- here each that needs none counts 2 ^ 16
pub record SingleWords (bytes : Bytes) (n x z : ℕ) : Type 0 where
  pub strides : Two (131070 * n) x (inline_strides Single bytes 0 (4 * n))
  pub full : Two (131072 * n) z (65536 * (4 * n - needing Single bytes (4 * n)))
