-- What the reader finds at a place, and the rows that are left from there on.
-- A law for each way through a function: the results of its calls and its tests are premises.
use Prim.Native.Nat.{ℕ, ◌+◌, ◌-◌, ◌*◌, ◌/◌, ◌≤◌, ◌<◌}
use mathlib.Core.Path.{◌≡◌, refl, sym, ap, ◌∙◌}
use mathlib.Core.Bool.{Bool, true, false}
use mathlib.Core.List.{[], ◌∷◌}
use Rattle.std.specs.Prelude.{Some, None}
use native.Mathlib.Nat.{div-eq_of_lt, div-eq-sub-div, div-mul-le_self, mul_comm}
use native.Mathlib.Numerals.{add-one}
use native.Mathlib.Omega.{arith}
use native.Mathlib.Decide.{dec_le}
use borrow.Author.Tests.{le-leb, lt-leb, le-ltb, lt-ltb}
use lib.ListN.{length, take, drop, drop_of_length-le, length-take}
use lib.Seq.{take-take, drop-drop, length-take-le}
use Rattle.loc_leaf.specs.declared.Kind.{Kind}
use Rattle.loc_leaf.specs.declared.Kind.TheVariants.{Paired, Single}
use Rattle.loc_leaf.specs.Bytes.{Bytes, number, number_at}
use Rattle.loc_leaf.specs.Area.{counted, pieces, fill, published}
use Rattle.loc_leaf.specs.Kind.{row_width}
use Rattle.loc_leaf.specs.Rows.{row_number, row_value, row_list, ascending}
use Rattle.loc_leaf.proofs.AreaLaws.{take_drop, pieces_cong}
use Rattle.loc_rows.specs.Reader.{fields, row_at, rows_from}
use Rattle.loc_rows.specs.declared.Row.{Row}

-- ---- what stands at a place

module _ (w : ℕ) (xs : Bytes) (at : ℕ) where
  pub row_none : length xs < at + w → row_at w xs at ≡ None
  unfolding row_at
  row_none h = rw (lt-leb (at + w) (length xs) h) refl

  pub row_whole : at + w ≤ length xs → row_at w xs at ≡ Some (fields (take w (drop at xs)))
  unfolding row_at
  row_whole h = rw (le-leb (at + w) (length xs) h) refl

  pub row_short : length xs < w → None ≡ row_at w xs at
  row_short h = sym (row_none (omega arith))

  pub row_past : w ≤ length xs → length xs - w < at → None ≡ row_at w xs at
  row_past g h = sym (row_none (omega arith))

  pub row_there : w ≤ length xs → at ≤ length xs - w → (n s p end : ℕ) → end ≡ at + w → n ≡ number_at 8 0 (take (end - at) (drop at xs))
      → s ≡ number_at 4 8 (take (end - at) (drop at xs)) → p ≡ number_at 4 12 (take (end - at) (drop at xs)) → Some (record { number = n; strides = s; spans = p }) ≡ row_at w xs at
  unfolding fields row_number
  row_there g h n s p end e en es ep =
      let z : end - at ≡ w = omega arith in
      rw (en, es, ep, z) (sym (row_whole (omega arith)))

-- the values of a row of a kind's width: one of 12 bytes has no spans
pub row_value_lem : (k : Kind) (xs : Bytes) → record { strides = number_at 4 8 (take (row_width k) xs); spans = number_at 4 12 (take (row_width k) xs) } ≡ row_value k (take (row_width k) xs)
unfolding row_value number_at number
row_value_lem Paired xs = refl
row_value_lem Single xs = rw (drop_of_length-le (take 12 xs) short) refl
  where
    short : length (take 12 xs) ≤ 12
    short = omega (arith, length-take 12 xs)

-- ---- the rows that are left

module _ (w : ℕ) (xs : Bytes) (at : ℕ) (wide : 12 ≤ w) where
  pub rows_more : at + w ≤ length xs → rows_from w xs at ≡ take w (drop at xs) ∷ rows_from w xs (at + w)
  unfolding rows_from pieces
  rows_more h =
      rw (div-eq-sub-div {m = w} {n = length xs - at} (omega arith) (omega arith), add-one, drop-drop w at xs)
      (ap (λ (n : ℕ). take w (drop at xs) ∷ pieces w (n / w) (drop (at + w) xs)) (omega arith))

  pub rows_none : length xs < at + w → rows_from w xs at ≡ []
  unfolding rows_from pieces
  rows_none h = rw (div-eq_of_lt {n = length xs - at} {m = w} (omega arith)) refl

-- the published part has the rows of the area
pub rows_lent : (k : Kind) (xs : Bytes) (w end : ℕ) → w ≡ row_width k → end ≡ counted xs → end ≤ length xs → rows_from w (take end xs) 16 ≡ row_list k xs
unfolding rows_from row_list published fill
rows_lent k xs w end ew ee h =
    rw (length-take-le end xs h, ← ew, ← ee)
    (pieces_cong w ((end - 16) / w) (drop 16 (take end xs)) (drop 16 xs) same)
  where
    few : w * ((end - 16) / w) ≤ end - 16
    few = rw (mul_comm w ((end - 16) / w)) (div-mul-le_self (end - 16) w)

    same : take (w * ((end - 16) / w)) (drop 16 (take end xs)) ≡ take (w * ((end - 16) / w)) (drop 16 xs)
    same = go (dec_le 16 end)
      where
        go : Dec (16 ≤ end) → take (w * ((end - 16) / w)) (drop 16 (take end xs)) ≡ take (w * ((end - 16) / w)) (drop 16 xs)
        go (yes g) =
            take_drop (w * ((end - 16) / w)) 16 (take end xs)
            ∙ ap (drop 16) (take-take (16 + w * ((end - 16) / w)) end xs (omega (arith, few)))
            ∙ sym (take_drop (w * ((end - 16) / w)) 16 xs)
        go (no g) = let z : w * ((end - 16) / w) ≡ 0 = omega (arith, few) in rw z refl

-- ---- the order of the rows

-- from here on the rows ascend as the whole does
module _ (w : ℕ) (xs : Bytes) (at last : ℕ) (wide : 12 ≤ w) (whole : Bool) (inv : whole ≡ ascending last (rows_from w xs at)) where
  pub no_row : None ≡ row_at w xs at → true ≡ whole
  unfolding ascending
  no_row e = go (dec_le (at + w) (length xs))
    where
      go : Dec (at + w ≤ length xs) → true ≡ whole
      go (yes g) = let z = row_whole w xs at g in cc
      go (no g) = sym (inv ∙ rw (rows_none w xs at wide (omega arith)) refl)

  module _ (r : Row) (e : Some r ≡ row_at w xs at) where
    pub row_inside : at + w ≤ length xs
    row_inside = go (dec_le (at + w) (length xs))
      where
        go : Dec (at + w ≤ length xs) → at + w ≤ length xs
        go (yes g) = g
        go (no g) = let z = row_none w xs at (omega arith) in cc

    row_is : r ≡ fields (take w (drop at xs))
    row_is = let z = row_whole w xs at row_inside in cc

    number_is : row_number (take w (drop at xs)) ≡ r.number
    unfolding fields
    number_is = rw row_is refl

    pub row_low : r.number ≤ last → false ≡ whole
    unfolding ascending
    row_low h = sym (inv ∙ rw (rows_more w xs at wide row_inside, number_is, le-ltb last r.number h) refl)

    pub row_above : last < r.number → whole ≡ ascending r.number (rows_from w xs (at + w))
    unfolding ascending
    row_above h = inv ∙ rw (rows_more w xs at wide row_inside, number_is, lt-ltb last r.number h) refl

-- of the published part, the rows of the area
pub rows_ascended : (k : Kind) (xs : Bytes) (w end : ℕ) (b : Bool) → w ≡ row_width k → end ≡ counted xs → end ≤ length xs → b ≡ ascending 0 (rows_from w (take end xs) 16) → b ≡ ascending 0 (row_list k xs)
rows_ascended k xs w end b ew ee h e = e ∙ ap (ascending 0) (rows_lent k xs w end ew ee h)
