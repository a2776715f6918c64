-- A reading of all records of a window: its numbers, and its words as lines.
-- What it answers is what the listing says of these records.
use Prim.Native.Nat.{ℕ, zero, suc, ◌+◌, ◌-◌, ◌*◌, ◌/◌, ◌%◌, ◌≤◌, ◌<◌}
use mathlib.Core.Path.{◌≡◌, refl, sym, ap, ◌∙◌}
use mathlib.Core.Bool.{Bool, true, false, cond}
use mathlib.Core.List.{List, [], ◌∷◌, ◌++◌, map, flatten}
use native.Mathlib.Numerals.{add-one}
use native.Mathlib.Omega.{arith}
use native.Mathlib.Decide.{dec_le}
use lib.ListN.{length, take, drop, get_or, set, replicate, length-append, length-map, get_or-append}
use lib.Seq.{take-suc-set, get_or-take, get_or-drop, get_or_at}
use Rattle.loc_leaf.specs.declared.Kind.TheVariants.{Paired}
use Rattle.loc_leaf.specs.Bytes.{Bytes}
use Rattle.loc_leaf.specs.Area.{pieces}
use Rattle.loc_leaf.proofs.AreaLaws.{Widths, pieces_flatten, pieces_get}
use Rattle.loc_calls.specs.Areas.{Areas, count}
use Rattle.loc_calls.specs.Reading.{within, words, words_for, answered, window_end, strides_after, spans_after, value_at}
use Rattle.loc_listing.specs.Text.{record_line, record_lines}
use Rattle.loc_listing.specs.Listing.{line_for, lines_after}
use Rattle.loc_print.specs.Printed.{numbers_after}

-- ---- numbers

pub numbers_long : (m n : ℕ) → length (numbers_after m n) ≡ n
unfolding numbers_after
numbers_long m zero = refl
numbers_long m (suc n) = omega (arith, length-append (numbers_after m n) ((m + suc n) ∷ []), numbers_long m n)

pub numbers_more : (m i : ℕ) (l : List ℕ) → i < length l → take i l ≡ numbers_after m i → take (i + 1) (set l i (m + 1 + i)) ≡ numbers_after m (i + 1)
unfolding numbers_after
numbers_more m i l h e =
    let number : m + 1 + i ≡ m + suc i = omega arith in
    rw (number, add-one i, take-suc-set l i (m + suc i) h, e) refl

numbers_at : (m n i : ℕ) → i < n → get_or (numbers_after m n) i 0 ≡ m + suc i
unfolding numbers_after
numbers_at m zero i h = absurd (omega arith)
numbers_at m (suc n) i h = go (dec_le (suc i) n) (numbers_at m n i)
  where
    go : Dec (suc i ≤ n) → (i < n → get_or (numbers_after m n) i 0 ≡ m + suc i) → get_or (numbers_after m n ++ ((m + suc n) ∷ [])) i 0 ≡ m + suc i
    go (yes q) less = get_or-append (numbers_after m n) ((m + suc n) ∷ []) 0 i (omega (arith, numbers_long m n)) ∙ less q
    go (no q) less =
        let e : i ≡ n = omega arith in
        get_or_at (numbers_after m n) (m + suc n) [] 0 i (numbers_long m n ∙ sym e) ∙ omega arith

-- ---- words

words_six : (a : Areas) (id : ℕ) → length (words_for Paired a id) ≡ 6
unfolding words_for words
words_six a id = go (within (count a) id)
  where
    go : (b : Bool) → length (cond b (words Paired (window_end Paired a 0 ((id - 1) / 1024) + 8 * strides_after Paired a (1024 * ((id - 1) / 1024)) ((id - 1) % 1024)) (window_end Paired a 8 ((id - 1) / 1024) + 8 * spans_after Paired a (1024 * ((id - 1) / 1024)) ((id - 1) % 1024)) (value_at Paired a id)) (replicate 6 0)) ≡ 6
    go true = refl
    go false = refl

all_six : (a : Areas) (ids : List ℕ) → Widths 6 (map (words_for Paired a) ids)
unfolding Widths
all_six a [] = tt
all_six a (id ∷ ids) = (words_six a id, all_six a ids)

-- the words of a record in the answers of a reading
pub words_at : (a : Areas) (m n : ℕ) (old : List ℕ) (i : ℕ) → i < n → take 6 (drop (6 * i) (answered (words_for Paired a) (numbers_after m n) old)) ≡ words_for Paired a (m + suc i)
unfolding answered
words_at a m n old i h =
    sym (pieces_get 6 n all i h)
    ∙ ap (λ (l : List Bytes). get_or l i []) held
    ∙ in_map
    ∙ ap (words_for Paired a) (numbers_at m n i h)
  where
    each : List Bytes
    each = map (words_for Paired a) (numbers_after m n)

    all : List ℕ
    all = flatten each ++ drop (length (flatten each)) old

    long : length each ≡ n
    long = length-map (numbers_after m n) (words_for Paired a) ∙ numbers_long m n

    held : pieces 6 n all ≡ each
    held = ap (λ (k : ℕ). pieces 6 k all) (sym long) ∙ pieces_flatten 6 each (drop (length (flatten each)) old) (all_six a (numbers_after m n))

    in_map : get_or each i [] ≡ words_for Paired a (get_or (numbers_after m n) i 0)
    in_map = get_d_map' (numbers_after m n) i (omega (arith, numbers_long m n))
      where
        get_d_map' : (l : List ℕ) (i : ℕ) → i < length l → get_or (map (words_for Paired a) l) i [] ≡ words_for Paired a (get_or l i 0)
        get_d_map' [] i h = absurd (omega arith)
        get_d_map' (x ∷ l) zero h = refl
        get_d_map' (x ∷ l) (suc i) h = get_d_map' l i (omega arith)

-- ---- lines

six_parts : (l : List ℕ) → length l ≡ 6 → drop 1 l ≡ get_or l 1 0 ∷ get_or l 2 0 ∷ get_or l 3 0 ∷ get_or l 4 0 ∷ get_or l 5 0 ∷ []
six_parts [] h = absurd (omega arith)
six_parts (a ∷ []) h = absurd (omega arith)
six_parts (a ∷ b ∷ []) h = absurd (omega arith)
six_parts (a ∷ b ∷ c ∷ []) h = absurd (omega arith)
six_parts (a ∷ b ∷ c ∷ d ∷ []) h = absurd (omega arith)
six_parts (a ∷ b ∷ c ∷ d ∷ e ∷ []) h = absurd (omega arith)
six_parts (a ∷ b ∷ c ∷ d ∷ e ∷ f ∷ []) h = refl
six_parts (a ∷ b ∷ c ∷ d ∷ e ∷ f ∷ g ∷ l) h = absurd (omega arith)

module _ (a : Areas) (m : ℕ) (ws : List ℕ) where
  word_at : (i j : ℕ) → j < 6 → take 6 (drop (6 * i) ws) ≡ words_for Paired a (m + suc i) → get_or ws (6 * i + j) 0 ≡ get_or (words_for Paired a (m + suc i)) j 0
  word_at i j h e = sym (get_or-take 6 (drop (6 * i) ws) j 0 h ∙ get_or-drop (6 * i) ws j 0) ∙ ap (λ (l : List ℕ). get_or l j 0) e

  line_at : (i : ℕ) → take 6 (drop (6 * i) ws) ≡ words_for Paired a (m + suc i) → record_line (m + 1) ws i ≡ line_for a (m + suc i)
  unfolding record_line line_for
  line_at i e =
      let number : m + 1 + i ≡ m + suc i = omega arith in
      rw (
        number,
        word_at i 1 (omega arith) e,
        word_at i 2 (omega arith) e,
        word_at i 3 (omega arith) e,
        word_at i 4 (omega arith) e,
        word_at i 5 (omega arith) e,
        six_parts (words_for Paired a (m + suc i)) (words_six a (m + suc i)),
      ) refl

  pub lines_of : (n : ℕ) → ((i : ℕ) → i < n → take 6 (drop (6 * i) ws) ≡ words_for Paired a (m + suc i)) → record_lines (m + 1) ws n ≡ lines_after a m n
  unfolding record_lines lines_after
  lines_of zero f = refl
  lines_of (suc n) f = rw (lines_of n (λ i h. f i (omega arith)), line_at n (f n (omega arith))) refl
