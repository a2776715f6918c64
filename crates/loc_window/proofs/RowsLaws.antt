-- Rows where they stand, by their place: number and value as they are read, and the row that is numbered id.
-- Rows ascend throughout, so that no row after a larger number has it.
use Prim.Native.Nat.{ℕ, ◌+◌, ◌-◌, ◌*◌, ◌^◌, ◌≤◌, ◌<◌}
use mathlib.Core.Path.{◌≡◌, refl, sym, ap, ◌∙◌}
use mathlib.Core.Logic.{⊎_elim}
use mathlib.Core.List.{List, []}
use native.Mathlib.Nat.{eq-or-lt_of_le}
use native.Mathlib.Decide.{dec_le}
use native.Mathlib.Omega.{arith}
use Rattle.std.specs.Prelude.{Some, None}
use lib.ListN.{length, take, drop, get_or}
use lib.Seq.{drop-drop}
use Rattle.loc_leaf.specs.declared.Kind.{Kind}
use Rattle.loc_leaf.specs.declared.Kind.TheVariants.{Paired, Single}
use Rattle.loc_leaf.specs.Bytes.{Bytes, number, bytes, number_at}
use Rattle.loc_leaf.specs.Area.{fill}
use Rattle.loc_leaf.specs.Kind.{row_width}
use Rattle.loc_leaf.specs.Rows.{row_list, row_value, number_in}
use Rattle.loc_leaf.proofs.Stored.{number_bytes}
use Rattle.loc_leaf.proofs.AreaLaws.{pieces_get}
use Rattle.loc_leaf.proofs.RowLaws.{rising, rows_are, rows_count, rows_room, row_room, number_there, piece_value, lookup_none, lookup_at_lem}
use Rattle.loc_window.specs.Window.{Passed, Below, RowsBefore, FoundRow}

-- ---- fields as they are read

-- a word is the number that its bytes spell
word_read : (xs : Bytes) (at r : ℕ) → r < 2 ^ 64 → bytes 8 r ≡ take 8 (drop at xs) → r ≡ number_at 8 at xs
unfolding number_at
word_read xs at r h e = sym (number_bytes 8 r h) ∙ ap number e

module _ (k : Kind) (xs : Bytes) (i : ℕ) (h : i < fill (row_width k) xs) where
  -- a row ends within the area
  pub row_ends : (w : ℕ) → w ≡ row_width k → w * i + w ≤ length xs - 16
  row_ends w ew = row_room w (fill (row_width k) xs) i (length xs - 16) (rows_room k xs w (fill (row_width k) xs) ew refl) h

  pub word_number : (w v : ℕ) → w ≡ row_width k → 12 ≤ w → v < 2 ^ 64 → bytes 8 v ≡ take 8 (drop (16 + w * i) xs) → v ≡ number_in (row_list k xs) i
  word_number w v ew wide f e =
      word_read xs (16 + w * i) v f e
      ∙ sym (ap (λ (l : List Bytes). number_in l i) (rows_are k xs w (fill (row_width k) xs) ew refl) ∙ number_there w wide xs (fill (row_width k) xs) i h)

  row_is : get_or (row_list k xs) i [] ≡ take (row_width k) (drop (16 + row_width k * i) xs)
  row_is =
      ap (λ (l : List Bytes). get_or l i []) (rows_are k xs (row_width k) (fill (row_width k) xs) refl refl)
      ∙ pieces_get (row_width k) (fill (row_width k) xs) (drop 16 xs) i h ∙ ap (take (row_width k)) (drop-drop (row_width k * i) 16 xs)

  value_is : row_value k (get_or (row_list k xs) i []) ≡ row_value k (drop (16 + row_width k * i) xs)
  value_is = ap (row_value k) row_is ∙ piece_value k (drop (16 + row_width k * i) xs)

field : (a b c : ℕ) (xs : Bytes) → a + b ≡ c → number_at 4 b (drop a xs) ≡ number_at 4 c xs
unfolding number_at
field a b c xs e = ap (λ (l : Bytes). number (take 4 l)) (drop-drop b a xs ∙ ap (λ (j : ℕ). drop j xs) e)

module _ (k : Kind) (xs : Bytes) (i : ℕ) (h : i < fill (row_width k) xs) (x : ℕ) where
  pub value_read_paired : (y : ℕ) → k ≡ Paired → x ≡ number_at 4 (24 + 16 * i) xs → y ≡ number_at 4 (28 + 16 * i) xs
      → record { strides = x; spans = y } ≡ row_value k (get_or (row_list k xs) i [])
  unfolding row_value
  value_read_paired y e ex ey =
      sym (value_is k xs i h ∙ rw (e, field (16 + 16 * i) 8 (24 + 16 * i) xs (omega arith), field (16 + 16 * i) 12 (28 + 16 * i) xs (omega arith), ex, ey) refl)

  pub value_read_single : k ≡ Single → x ≡ number_at 4 (24 + 12 * i) xs → record { strides = x; spans = 0 } ≡ row_value k (get_or (row_list k xs) i [])
  unfolding row_value
  value_read_single e ex = sym (value_is k xs i h ∙ rw (e, field (16 + 12 * i) 8 (24 + 12 * i) xs (omega arith), ex) refl)

-- there are no more rows than bytes behind the first 16
pub few_rows : (k : Kind) (xs : Bytes) → fill (row_width k) xs ≤ length xs - 16
few_rows Paired xs = omega (arith, rows_room Paired xs 16 (fill 16 xs) refl refl)
few_rows Single xs = omega (arith, rows_room Single xs 12 (fill 12 xs) refl refl)

-- ---- rows that ascend: what stands before a place, and the row that is numbered id

-- up to a lesser number
pub before_less : (k : Kind) (rows : Bytes) (top id past : ℕ) → id ≤ top → RowsBefore k rows top past → RowsBefore k rows id past
before_less k rows top id past h r = record { ascend = r.ascend; inside = r.inside; above = λ i g l. omega (arith, r.above i g l) }

module _ (k : Kind) (xs : Bytes) (past id : ℕ) (r : RowsBefore k xs id past) where
  -- the row at a place before `past` is numbered id
  pub found_row : (i v : ℕ) → i < past → v ≡ number_in (row_list k xs) i → v ≡ id → FoundRow k xs past id (Some i)
  found_row i v h ev e = (h, record { is_found = lookup_at_lem k (row_list k xs) id i r.ascend there (sym ev ∙ e); passed = passed })
    where
      there : i < length (row_list k xs)
      there = omega (arith, rows_count k xs, r.inside)

      passed : Passed (row_list k xs) (i + 1) id
      passed j g = ⊎_elim (λ (w : j ≡ i). rw w (omega arith)) (λ (s : j < i). omega (arith, rising 0 (row_list k xs) r.ascend j i s there)) (eq-or-lt_of_le (omega arith))

  -- the rows before a place are numbered below id, and those from there on above it
  none_there : (i : ℕ) → Below (row_list k xs) i id → ((j : ℕ) → i ≤ j → j < length (row_list k xs) → id < number_in (row_list k xs) j) → FoundRow k xs past id None
  none_there i below above = lookup_none k (row_list k xs) id differs
    where
      differs : (j : ℕ) → j < length (row_list k xs) → number_in (row_list k xs) j ≡ id → ⊥
      differs j h e = go (dec_le i j)
        where
          go : Dec (i ≤ j) → ⊥
          go (yes g) = omega (arith, above j g h)
          go (no g) = omega (arith, below j (omega arith))

  module _ (i : ℕ) (below : Below (row_list k xs) i id) where
    -- a row that is not numbered id, nor above it, is passed
    pub below_more : (v : ℕ) → v ≡ number_in (row_list k xs) i → (v ≡ id → ⊥) → v ≤ id → Below (row_list k xs) (i + 1) id
    below_more v ev other up j g = ⊎_elim (λ (w : j ≡ i). rw w (omega arith)) (λ (s : j < i). below j s) (eq-or-lt_of_le (omega arith))

    pub none_above : (v : ℕ) → v ≡ number_in (row_list k xs) i → id < v → FoundRow k xs past id None
    none_above v ev l = none_there i below above
      where
        above : (j : ℕ) → i ≤ j → j < length (row_list k xs) → id < number_in (row_list k xs) j
        above j g h = ⊎_elim (λ (w : i ≡ j). rw (← w) (omega arith)) (λ (s : i < j). omega (arith, rising 0 (row_list k xs) r.ascend i j s h)) (eq-or-lt_of_le g)

    pub none_past : past ≤ i → FoundRow k xs past id None
    none_past l = none_there i below (λ j g h. r.above j (omega arith) h)
