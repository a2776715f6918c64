-- Rows of an area in the form in which the code meets them, and what the search by halves finds where rows ascend.
-- The width is the kind's; a row is a piece of that width.
use Rattle.std.specs.Prelude.{Some, None}
use Prim.Native.Nat.{ℕ, zero, suc, ◌+◌, ◌-◌, ◌*◌, ◌/◌, ◌≤◌, ◌<◌}
use mathlib.Core.Path.{◌≡◌, refl, sym, ap, ◌∙◌}
use mathlib.Core.Logic.{◌⊎◌, inl, inr, ⊎_elim}
use mathlib.Core.Bool.{true, false, cond}
use mathlib.Core.List.{List, [], ◌∷◌}
use native.Mathlib.Nat.{mul-zero, mul-suc, mul-le-mul_left, add-zero, sub-zero, add_comm, le_antisymm, eq-or-lt_of_le, le_of_suc-le-suc, not-suc-le-zero}
use native.Mathlib.Omega.{arith}
use native.Mathlib.Decide.{dec_le}
use lib.Dec.{leb, ltb, eqb}
use lib.ListN.{length, take, drop, get_or}
use lib.Seq.{take-take, drop-drop}
use borrow.Author.Tests.{lt-ltb, le-ltb, le-leb, lt-leb, eq-eqb, ne_eqb, ltb-true, ltb-false, leb-true, leb-false}
use Rattle.loc_leaf.specs.declared.Kind.{Kind}
use Rattle.loc_leaf.specs.declared.Kind.TheVariants.{Paired, Single}
use Rattle.loc_leaf.specs.Bytes.{Bytes, number, number_at}
use Rattle.loc_leaf.specs.Area.{counted, pieces, fill, published}
use Rattle.loc_leaf.specs.Kind.{row_width}
use Rattle.loc_leaf.specs.Rows.{row_number, row_value, row_list, ascending, last_number, rows_up_to, row_for, has_row, lookup, halve, number_in, rows_up_to_by_halves}
use Rattle.loc_leaf.proofs.Booleans.{both_left, both_right, is?}
use Rattle.loc_leaf.proofs.AreaLaws.{take_drop, counted_le, length_pieces, pieces_get}

-- ---- a row's fields

-- a field lies within the row
pub field_in : (n at w : ℕ) (xs : Bytes) → at + n ≤ w → number_at n at (take w xs) ≡ number_at n at xs
unfolding number_at
field_in n at w xs h = ap number (take_drop n at (take w xs) ∙ ap (drop at) (take-take (at + n) w xs h) ∙ sym (take_drop n at xs))

pub piece_number : (w : ℕ) (xs : Bytes) → 8 ≤ w → row_number (take w xs) ≡ number_at 8 0 xs
unfolding row_number
piece_number w xs h = field_in 8 0 w xs (omega arith)

pub piece_value : (k : Kind) (xs : Bytes) → row_value k (take (row_width k) xs) ≡ row_value k xs
unfolding row_value
piece_value Paired xs = rw (field_in 4 8 16 xs (omega arith), field_in 4 12 16 xs (omega arith)) refl
piece_value Single xs = rw (field_in 4 8 12 xs (omega arith)) refl

-- ---- how many there are

-- the rows lie within the area
pub rows_room : (k : Kind) (xs : Bytes) (w n : ℕ) → w ≡ row_width k → n ≡ fill (row_width k) xs → w * n ≤ length xs - 16
unfolding fill
rows_room k xs w n ew en = rw (ew, en) (room k)
  where
    room : (j : Kind) → row_width j * ((counted xs - 16) / row_width j) ≤ length xs - 16
    room Paired = omega (arith, counted_le xs)
    room Single = omega (arith, counted_le xs)

-- and so does each of them
pub row_room : (w n i len : ℕ) → w * n ≤ len → i < n → w * i + w ≤ len
row_room w n i len h g = omega (arith, mul-suc w i, mul-le-mul_left {m = suc i} {n = n} w g)

-- ---- the published rows

-- the rows that are published, by their width and number
pub rows_are : (k : Kind) (xs : Bytes) (w n : ℕ) → w ≡ row_width k → n ≡ fill (row_width k) xs → row_list k xs ≡ pieces w n (drop 16 xs)
unfolding row_list published
rows_are k xs w n ew en = rw (ew, en) refl

pub rows_count : (k : Kind) (xs : Bytes) → length (row_list k xs) ≡ fill (row_width k) xs
unfolding row_list published
rows_count k xs = length_pieces (row_width k) (fill (row_width k) xs) (drop 16 xs)

-- ---- the last row, and a row by its place

number_past : (n i w : ℕ) (xs : Bytes) → number_at n i (drop w xs) ≡ number_at n (w + i) xs
unfolding number_at
number_past n i w xs = rw (drop-drop i w xs) refl

module _ (w : ℕ) (wide : 12 ≤ w) where
  last_piece : (m n : ℕ) (xs : Bytes) → last_number n (pieces w (suc m) xs) ≡ number_at 8 (w * m) xs
  unfolding last_number pieces
  last_piece zero n xs = piece_number w xs (omega arith) ∙ ap (λ (i : ℕ). number_at 8 i xs) (sym (mul-zero w))
  last_piece (suc m) n xs =
      last_piece m (row_number (take w xs)) (drop w xs) ∙ number_past 8 (w * m) w xs ∙ ap (λ (i : ℕ). number_at 8 i xs) (add_comm w (w * m) ∙ sym (mul-suc w m))

  module _ (xs : Bytes) (n : ℕ) where
    row_there : (i : ℕ) → i < n → get_or (pieces w n (drop 16 xs)) i [] ≡ take w (drop (16 + w * i) xs)
    row_there i h = pieces_get w n (drop 16 xs) i h ∙ ap (take w) (drop-drop (w * i) 16 xs)

    pub number_there : (i : ℕ) → i < n → number_in (pieces w n (drop 16 xs)) i ≡ number_at 8 (16 + w * i) xs
    unfolding number_in
    number_there i h =
        ap row_number (row_there i h) ∙ piece_number w (drop (16 + w * i) xs) (omega arith) ∙ number_past 8 0 (16 + w * i) xs
        ∙ ap (λ (j : ℕ). number_at 8 j xs) (add-zero (16 + w * i))

module _ (k : Kind) (xs : Bytes) (n : ℕ) (e : n ≡ fill (row_width k) xs) where
  pub last_none : n ≡ 0 → 0 ≡ last_number 0 (row_list k xs)
  unfolding row_list published pieces last_number
  last_none z = rw (sym e ∙ z) refl

  pub last_some : (w r : ℕ) → w ≡ row_width k → 12 ≤ w → (n ≡ 0 → ⊥) → r ≡ number_at 8 (16 + w * (n - 1)) xs → r ≡ last_number 0 (row_list k xs)
  last_some w r ew wide z g =
      let m : n ≡ suc (n - 1) = omega arith in
      g ∙ sym (ap (last_number 0) (rows_are k xs w n ew e ∙ ap (λ (i : ℕ). pieces w i (drop 16 xs)) m) ∙ last_piece w wide (n - 1) 0 (drop 16 xs) ∙ number_past 8 (w * (n - 1)) 16 xs)

-- ---- the search by halves

module _ (f : ℕ → ℕ) (n : ℕ) where
  -- turns past those that are needed change nothing
  halve_enough : (t u lo hi : ℕ) → hi - lo ≤ t → hi - lo ≤ u → halve f n t lo hi ≡ halve f n u lo hi
  unfolding halve
  halve_enough zero zero lo hi p q = refl
  halve_enough zero (suc u) lo hi p q = rw (le-ltb lo hi (omega arith)) refl
  halve_enough (suc t) zero lo hi p q = rw (le-ltb lo hi (omega arith)) refl
  halve_enough (suc t) (suc u) lo hi p q = go (is? (ltb lo hi)) (λ a b. halve_enough t u a b)
    where
      go : (ltb lo hi ≡ true) ⊎ (ltb lo hi ≡ false) → ((a b : ℕ) → b - a ≤ t → b - a ≤ u → halve f n t a b ≡ halve f n u a b)
          → halve f n (suc t) lo hi ≡ halve f n (suc u) lo hi
      go (inl e) more =
          let l : lo < hi = ltb-true lo hi e in
          rw (e, more (lo + (hi - lo) / 2 + 1) hi (omega arith) (omega arith), more lo (lo + (hi - lo) / 2) (omega arith) (omega arith)) refl
      go (inr e) more = rw e refl

  halve_step : (t lo hi : ℕ) → lo < hi → halve f n (suc t) lo hi ≡ cond (leb (f (lo + (hi - lo) / 2)) n) (halve f n t (lo + (hi - lo) / 2 + 1) hi) (halve f n t lo (lo + (hi - lo) / 2))
  unfolding halve
  halve_step t lo hi h = rw (lt-ltb lo hi h) refl

  pub halve_done : (lo hi whole : ℕ) → whole ≡ halve f n (hi - lo) lo hi → hi ≤ lo → lo ≡ whole
  unfolding halve
  halve_done lo hi whole e h = let z : hi - lo ≡ 0 = omega arith in sym (e ∙ rw z refl)

  module _ (lo hi whole : ℕ) (inv : whole ≡ halve f n (hi - lo) lo hi) (h : lo < hi) (mid : ℕ) (em : mid ≡ lo + (hi - lo) / 2) where
    halve_turn : whole ≡ cond (leb (f mid) n) (halve f n (hi - (mid + 1)) (mid + 1) hi) (halve f n (mid - lo) lo mid)
    halve_turn =
        inv ∙ ap (λ (t : ℕ). halve f n t lo hi) (omega arith) ∙ halve_step (hi - lo - 1) lo hi h
        ∙ rw (← em, halve_enough (hi - lo - 1) (hi - (mid + 1)) (mid + 1) hi (omega arith) (omega arith), halve_enough (hi - lo - 1) (mid - lo) lo mid (omega arith) (omega arith)) refl

    pub halve_up : f mid ≤ n → whole ≡ halve f n (hi - (mid + 1)) (mid + 1) hi
    halve_up g = halve_turn ∙ rw (le-leb (f mid) n g) refl

    pub halve_down : n < f mid → whole ≡ halve f n (mid - lo) lo mid
    halve_down g = halve_turn ∙ rw (lt-leb (f mid) n g) refl

pub halves_begin : (w m n : ℕ) (ys : Bytes) → rows_up_to_by_halves n (pieces w m ys) ≡ halve (number_in (pieces w m ys)) n (m - 0) 0 m
unfolding rows_up_to_by_halves
halves_begin w m n ys = rw (length_pieces w m ys, sub-zero m) refl

-- halving over rows of an area: r is the number that was read in the middle
module _ (w : ℕ) (wide : 12 ≤ w) (xs : Bytes) (m n : ℕ) where
  abbrev rows : List Bytes
  rows = pieces w m (drop 16 xs)

  module _ (lo hi : ℕ) (inv : rows_up_to_by_halves n rows ≡ halve (number_in rows) n (hi - lo) lo hi) (h : lo < hi) (g : hi ≤ m)
      (r : ℕ) (er : r ≡ number_at 8 (16 + w * (lo + (hi - lo) / 2)) xs) where
    middle : number_in rows (lo + (hi - lo) / 2) ≡ r
    middle = number_there w wide xs m (lo + (hi - lo) / 2) (omega arith) ∙ sym er

    pub halves_up : r ≤ n → rows_up_to_by_halves n rows ≡ halve (number_in rows) n (hi - (lo + (hi - lo) / 2 + 1)) (lo + (hi - lo) / 2 + 1) hi
    halves_up q = halve_up (number_in rows) n lo hi _ inv h (lo + (hi - lo) / 2) refl (rw middle q)

    pub halves_down : n < r → rows_up_to_by_halves n rows ≡ halve (number_in rows) n (lo + (hi - lo) / 2 - lo) lo (lo + (hi - lo) / 2)
    halves_down q = halve_down (number_in rows) n lo hi _ inv h (lo + (hi - lo) / 2) refl (rw middle q)

-- ---- where rows ascend, halves find what the definitions say

module _ (n : ℕ) where
  -- the place p parts the numbers up to n from those above it
  pub record Parts (rs : List Bytes) (p : ℕ) : Type 0 where
    pub inside : p ≤ length rs
    pub up_to : (i : ℕ) → i < p → number_in rs i ≤ n
    pub above : (i : ℕ) → p ≤ i → i < length rs → n < number_in rs i

  pub parts_same : (rs : List Bytes) (p q : ℕ) → Parts rs p → Parts rs q → p ≡ q
  parts_same rs p q a b = go (dec_le p q) (dec_le q p)
    where
      go : Dec (p ≤ q) → Dec (q ≤ p) → p ≡ q
      go (yes g) (yes h) = le_antisymm g h
      go (yes g) (no h) = absurd (omega (arith, b.up_to p (omega arith), a.above p (omega arith) (omega (arith, b.inside))))
      go (no g) h = absurd (omega (arith, a.up_to q (omega arith), b.above q (omega arith) (omega (arith, a.inside))))

  -- above a number that is n or more all numbers are above n
  pub none_up_to : (m : ℕ) (rs : List Bytes) → n ≤ m → ascending m rs ≡ true → (rows_up_to n rs ≡ 0) × ((i : ℕ) → i < length rs → n < number_in rs i)
  unfolding ascending rows_up_to number_in
  none_up_to m [] h a = (refl, λ i g. absurd (not-suc-le-zero g))
  none_up_to m (r ∷ rs) h a = go (none_up_to (row_number r) rs (omega (arith, first)) (both_right (ltb m (row_number r)) (ascending (row_number r) rs) a))
    where
      first : m < row_number r
      first = ltb-true m (row_number r) (both_left (ltb m (row_number r)) (ascending (row_number r) rs) a)

      go : (rows_up_to n rs ≡ 0) × ((i : ℕ) → i < length rs → n < number_in rs i)
          → (rows_up_to n (r ∷ rs) ≡ 0) × ((i : ℕ) → i < length (r ∷ rs) → n < number_in (r ∷ rs) i)
      go more = (rw (lt-leb (row_number r) n (omega (arith, first))) more.0, at)
        where
          at : (i : ℕ) → i < length (r ∷ rs) → n < number_in (r ∷ rs) i
          at zero g = omega (arith, first)
          at (suc i) g = more.1 i (le_of_suc-le-suc g)

  pub up_to_parts : (m : ℕ) (rs : List Bytes) → ascending m rs ≡ true → Parts rs (rows_up_to n rs)
  unfolding ascending rows_up_to number_in
  up_to_parts m [] a = record { inside = omega arith; up_to = λ i h. absurd (not-suc-le-zero h); above = λ i h g. absurd (not-suc-le-zero g) }
  up_to_parts m (r ∷ rs) a = go (is? (leb (row_number r) n)) (up_to_parts (row_number r) rs rest)
    where
      rest : ascending (row_number r) rs ≡ true
      rest = both_right (ltb m (row_number r)) (ascending (row_number r) rs) a

      go : (leb (row_number r) n ≡ true) ⊎ (leb (row_number r) n ≡ false) → Parts rs (rows_up_to n rs) → Parts (r ∷ rs) (rows_up_to n (r ∷ rs))
      go (inl t) more = rw t (record { inside = omega (arith, more.inside); up_to = up; above = past })
        where
          up : (i : ℕ) → i < suc (rows_up_to n rs) → number_in (r ∷ rs) i ≤ n
          up zero h = leb-true (row_number r) n t
          up (suc i) h = more.up_to i (le_of_suc-le-suc h)

          past : (i : ℕ) → suc (rows_up_to n rs) ≤ i → i < length (r ∷ rs) → n < number_in (r ∷ rs) i
          past zero h g = absurd (not-suc-le-zero h)
          past (suc i) h g = more.above i (le_of_suc-le-suc h) (le_of_suc-le-suc g)
      go (inr t) more = rw (t, none.0) (record { inside = omega arith; up_to = λ i h. absurd (not-suc-le-zero h); above = λ i h g. past i g })
        where
          low : n < row_number r
          low = leb-false (row_number r) n t

          none : (rows_up_to n rs ≡ 0) × ((i : ℕ) → i < length rs → n < number_in rs i)
          none = none_up_to (row_number r) rs (omega (arith, low)) rest

          past : (i : ℕ) → i < length (r ∷ rs) → n < number_in (r ∷ rs) i
          past zero g = low
          past (suc i) g = none.1 i (le_of_suc-le-suc g)

-- a later row has the larger number
above_first : (m : ℕ) (rs : List Bytes) → ascending m rs ≡ true → (i : ℕ) → i < length rs → m < number_in rs i
above_first m rs a i h = (none_up_to m m rs (omega arith) a).1 i h

pub rising : (m : ℕ) (rs : List Bytes) → ascending m rs ≡ true → (i j : ℕ) → i < j → j < length rs → number_in rs i < number_in rs j
unfolding ascending number_in
rising m [] a i j h g = absurd (not-suc-le-zero g)
rising m (r ∷ rs) a zero zero h g = absurd (not-suc-le-zero h)
rising m (r ∷ rs) a zero (suc j) h g = above_first (row_number r) rs (both_right (ltb m (row_number r)) (ascending (row_number r) rs) a) j (le_of_suc-le-suc g)
rising m (r ∷ rs) a (suc i) zero h g = absurd (not-suc-le-zero h)
rising m (r ∷ rs) a (suc i) (suc j) h g = rising (row_number r) rs (both_right (ltb m (row_number r)) (ascending (row_number r) rs) a) i j (le_of_suc-le-suc h) (le_of_suc-le-suc g)

module _ (rs : List Bytes) (a : ascending 0 rs ≡ true) (n : ℕ) where
  halve_parts : (t lo hi : ℕ) → hi - lo ≤ t → lo ≤ hi → hi ≤ length rs
      → ((i : ℕ) → i < lo → number_in rs i ≤ n) → ((i : ℕ) → hi ≤ i → i < length rs → n < number_in rs i) → Parts n rs (halve (number_in rs) n t lo hi)
  unfolding halve
  halve_parts zero lo hi p q g up past = record { inside = omega arith; up_to = up; above = λ i h. past i (omega arith) }
  halve_parts (suc t) lo hi p q g up past = go (is? (ltb lo hi)) (λ l h. halve_parts t l h)
    where
      go : (ltb lo hi ≡ true) ⊎ (ltb lo hi ≡ false)
          → ((l h : ℕ) → h - l ≤ t → l ≤ h → h ≤ length rs → ((i : ℕ) → i < l → number_in rs i ≤ n) → ((i : ℕ) → h ≤ i → i < length rs → n < number_in rs i) → Parts n rs (halve (number_in rs) n t l h))
          → Parts n rs (halve (number_in rs) n (suc t) lo hi)
      go (inl e) more = rw e (half (is? (leb (number_in rs (lo + (hi - lo) / 2)) n)))
        where
          less : lo < hi
          less = ltb-true lo hi e

          half : (leb (number_in rs (lo + (hi - lo) / 2)) n ≡ true) ⊎ (leb (number_in rs (lo + (hi - lo) / 2)) n ≡ false)
              → Parts n rs (cond (leb (number_in rs (lo + (hi - lo) / 2)) n) (halve (number_in rs) n t (lo + (hi - lo) / 2 + 1) hi) (halve (number_in rs) n t lo (lo + (hi - lo) / 2)))
          half (inl b) = rw b (more (lo + (hi - lo) / 2 + 1) hi (omega (arith, less)) (omega (arith, less)) g below past)
            where
              below : (i : ℕ) → i < lo + (hi - lo) / 2 + 1 → number_in rs i ≤ n
              below i h =
                  ⊎_elim
                  (λ (w : i ≡ lo + (hi - lo) / 2). rw w (leb-true (number_in rs (lo + (hi - lo) / 2)) n b))
                  (λ (s : i < lo + (hi - lo) / 2). omega (arith, rising 0 rs a i (lo + (hi - lo) / 2) s (omega (arith, less)), leb-true (number_in rs (lo + (hi - lo) / 2)) n b))
                  (eq-or-lt_of_le (omega arith))
          half (inr b) = rw b (more lo (lo + (hi - lo) / 2) (omega (arith, less)) (omega arith) (omega (arith, less)) up beyond)
            where
              beyond : (i : ℕ) → lo + (hi - lo) / 2 ≤ i → i < length rs → n < number_in rs i
              beyond i h l =
                  ⊎_elim
                  (λ (w : lo + (hi - lo) / 2 ≡ i). rw (← w) (leb-false (number_in rs (lo + (hi - lo) / 2)) n b))
                  (λ (s : lo + (hi - lo) / 2 < i). omega (arith, rising 0 rs a (lo + (hi - lo) / 2) i s l, leb-false (number_in rs (lo + (hi - lo) / 2)) n b))
                  (eq-or-lt_of_le h)
      go (inr e) more = rw e (record { inside = omega arith; up_to = up; above = λ i h. past i (omega (arith, ltb-false lo hi e)) })

  by_halves_parts : Parts n rs (rows_up_to_by_halves n rs)
  unfolding rows_up_to_by_halves
  by_halves_parts = halve_parts (length rs) 0 (length rs) (omega arith) (omega arith) (omega arith) (λ i h. absurd (not-suc-le-zero h)) (λ i h g. absurd (omega arith))

  pub up_to_by_halves : rows_up_to_by_halves n rs ≡ rows_up_to n rs
  up_to_by_halves = parts_same n rs _ _ by_halves_parts (up_to_parts n 0 rs a)

-- a number that no row has, and one that a row is the first to have
has_none : (n : ℕ) (rs : List Bytes) → ((i : ℕ) → i < length rs → number_in rs i ≡ n → ⊥) → has_row n rs ≡ false
unfolding has_row number_in
has_none n [] h = refl
has_none n (r ∷ rs) h = rw (ne_eqb (row_number r) n (h zero (omega arith))) (has_none n rs (λ i g. h (suc i) (omega arith)))

has_first : (n q : ℕ) (rs : List Bytes) → q < length rs → number_in rs q ≡ n → ((i : ℕ) → i < q → number_in rs i ≡ n → ⊥) → (has_row n rs ≡ true) × (row_for n rs ≡ get_or rs q [])
unfolding has_row row_for number_in
has_first n q [] g e h = absurd (not-suc-le-zero g)
has_first n zero (r ∷ rs) g e h = (rw (eq-eqb (row_number r) n e) refl, rw (eq-eqb (row_number r) n e) refl)
has_first n (suc q) (r ∷ rs) g e h =
    let x : eqb (row_number r) n ≡ false = ne_eqb (row_number r) n (h zero (omega arith)) in
    let more : (has_row n rs ≡ true) × (row_for n rs ≡ get_or rs q []) = has_first n q rs (le_of_suc-le-suc g) e (λ i l. h (suc i) (omega arith)) in
    (rw x more.0, rw x more.1)

module _ (k : Kind) (rs : List Bytes) (n : ℕ) where
  -- no row has the number
  pub lookup_none : ((i : ℕ) → i < length rs → number_in rs i ≡ n → ⊥) → lookup k n rs ≡ None
  unfolding lookup
  lookup_none h = rw (has_none n rs h) refl

  -- the row that has it, where rows ascend
  pub lookup_at_lem : (i : ℕ) → ascending 0 rs ≡ true → i < length rs → number_in rs i ≡ n → lookup k n rs ≡ Some (row_value k (get_or rs i []))
  unfolding lookup
  lookup_at_lem i a h e = rw (it.0, it.1) refl
    where
      it : (has_row n rs ≡ true) × (row_for n rs ≡ get_or rs i [])
      it = has_first n i rs h e (λ j l q. omega (arith, rising 0 rs a j i l h))
