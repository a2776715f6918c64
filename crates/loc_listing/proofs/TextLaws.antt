-- Text put after text, and the texts of a listing piece by piece.
-- `Put` composes, so each function's text is the texts of its calls one after the other.
use Prim.Native.Nat.{ℕ, zero, suc, ◌+◌, ◌-◌, ◌*◌, ◌/◌, ◌%◌, ◌≤◌, ◌<◌}
use mathlib.Core.Path.{◌≡◌, refl, sym, ap, ◌∙◌, subst}
use mathlib.Core.Bool.{true, false}
use mathlib.Core.List.{List, [], ◌∷◌, ◌++◌, append_assoc, append-nil}
use native.Mathlib.Nat.{add-zero, zero-add, add-suc}
use native.Mathlib.Numerals.{add-one}
use native.Mathlib.Omega.{arith}
use lib.ListN.{length, take, drop, get_or, set, length-append, length-drop, take-append-drop, drop_of_length-le}
use lib.Seq.{sets, sets-eq, take-suc, take_all, drop-set-add, take-set-le}
use borrow.Author.Tests.{lt-ltb, le-ltb, lt-leb, le-leb}
use Rattle.std.proofs.lemmas.Bool.Decides.{nat_tests}
use borrow.Rule.Slice.PartMut.{put_mid}
use Rattle.loc_listing.specs.Text.{digits, decimal, line, record_line, record_lines, refused_line, fits, line_text, window_text, refused_text, Put}

sets_append : (l : List ℕ) (i : ℕ) (xs ys : List ℕ) → sets l i (xs ++ ys) ≡ sets (sets l i xs) (i + length xs) ys
sets_append l i [] ys = ap (λ (j : ℕ). sets l j ys) (omega arith)
sets_append l i (x ∷ xs) ys = sets_append (set l i x) (suc i) xs ys ∙ ap (λ (j : ℕ). sets (sets (set l i x) (suc i) xs) j ys) (omega arith)

pub put_then : (xs ys : List ℕ) {l l₁ l₂ : List ℕ} {at p q : ℕ} → Put l at xs l₁ p → Put l₁ p ys l₂ q → Put l at (xs ++ ys) l₂ q
put_then xs ys {l} {l₁} {l₂} {at} {p} {q} f g = record { buffer = whole; place = omega (arith, f.place, g.place, length-append xs ys) }
  where
    whole : l₂ ≡ sets l at (xs ++ ys)
    whole = g.buffer ∙ (ap (λ (x : List ℕ). sets x p ys) f.buffer ∙ (ap (λ (j : ℕ). sets (sets l at xs) j ys) f.place ∙ sym (sets_append l at xs ys)))

pub put_byte : (l : List ℕ) (at b : ℕ) → Put l at (b ∷ []) (set l at b) (at + 1)
put_byte l at b = record { buffer = refl; place = refl }

pub put_nothing : (l : List ℕ) (at : ℕ) → Put l at [] l at
put_nothing l at = record { buffer = refl; place = omega arith }

-- bytes copied to the start of a buffer
pub put_start : (xs l : List ℕ) → length xs ≤ length l → Put l 0 xs (xs ++ drop (length xs) l) (length xs)
put_start xs l h = record { buffer = sym (sets-eq xs l 0 (omega arith) ∙ rw zero-add refl); place = omega arith }

-- ---- a part of the buffer, from a place on, lent for a text

sets_tail : (xs : List ℕ) (a j : ℕ) (vs : List ℕ) → take a xs ++ sets (drop a xs) j vs ≡ sets xs (a + j) vs
sets_tail xs a j [] = take-append-drop a xs
sets_tail xs a j (v ∷ vs) =
    let p : take a (set xs (a + j) v) ≡ take a xs = take-set-le a xs (a + j) v (omega arith) in
    rw (← drop-set-add a xs j v, ← p, ← add-suc) (sets_tail (set xs (a + j) v) a (suc j) vs)

module _ (xs : List ℕ) (a : ℕ) where
  rest_long : length (drop a xs) ≤ length xs - a
  rest_long = rw length-drop (omega arith)

  part_is : take (length xs - a) (drop a xs) ≡ drop a xs
  part_is = take_all (length xs - a) (drop a xs) rest_long

  pub part_long : length (take (length xs - a) (drop a xs)) ≡ length xs - a
  part_long = rw (part_is, length-drop a xs) refl

  pub put_part : (text ys : List ℕ) (r : ℕ) → Put (take (length xs - a) (drop a xs)) 0 text ys r → Put xs a text (put_mid a (length xs - a) xs ys) (a + r)
  put_part text ys r p = record { buffer = whole; place = omega (arith, p.place) }
    where
      whole : put_mid a (length xs - a) xs ys ≡ sets xs a text
      whole = rw (drop_of_length-le (drop a xs) rest_long, append-nil, p.buffer, part_is, sets_tail xs a 0 text, add-zero) refl

-- ---- digits

module _ (l : List ℕ) (at n : ℕ) where
  pub digits_none : (k : ℕ) → k ≡ 0 → Put l at (digits k n) l at
  unfolding digits
  digits_none k e = rw e (put_nothing l at)

  pub digits_one : (k : ℕ) → (k ≡ 0 → ⊥) → n < 10 → Put l at (digits k n) (set l at (48 + n)) (at + 1)
  unfolding digits
  digits_one zero f h = absurd (f refl)
  digits_one (suc k) f h = rw (lt-ltb n 10 h) (put_byte l at (48 + n))

  pub digits_more : (k : ℕ) → (k ≡ 0 → ⊥) → 10 ≤ n → (l₁ : List ℕ) (p : ℕ) → Put l at (digits (k - 1) (n / 10)) l₁ p
      → Put l at (digits k n) (set l₁ p (48 + n % 10)) (p + 1)
  unfolding digits
  digits_more zero f h l₁ p g = absurd (f refl)
  digits_more (suc k) f h l₁ p g =
      let less : suc k - 1 ≡ k = omega arith in
      rw (le-ltb n 10 h)
      (put_then (digits k (n / 10)) ((48 + n % 10) ∷ []) (subst (λ (j : ℕ). Put l at (digits j (n / 10)) l₁ p) less g) (put_byte l₁ p (48 + n % 10)))

-- ---- lines

-- numbers, each with a space behind it
unfoldable pub spaced : List ℕ → List ℕ
spaced [] = []
spaced (n ∷ ns) = decimal n ++ (32 ∷ spaced ns)

pub spaced_more : (ns : List ℕ) (m : ℕ) → spaced (ns ++ (m ∷ [])) ≡ spaced ns ++ (decimal m ++ (32 ∷ []))
unfolding spaced
spaced_more [] m = refl
spaced_more (n ∷ ns) m = rw (spaced_more ns m) (simp append_assoc)

line_more : (n : ℕ) (ns : List ℕ) (m : ℕ) → line (n ∷ (ns ++ (m ∷ []))) ≡ spaced (n ∷ ns) ++ (decimal m ++ (10 ∷ []))
unfolding spaced line
line_more n [] m = simp append_assoc
line_more n (k ∷ ns) m = rw (line_more k ns m) (unfold spaced in simp append_assoc)

line_whole : (ns : List ℕ) → length ns ≡ 6 → line ns ≡ spaced (take 5 ns) ++ (decimal (get_or ns 5 0) ++ (10 ∷ []))
line_whole [] e = absurd (omega arith)
line_whole (n ∷ ns) e = ap (λ (xs : List ℕ). line (n ∷ xs)) five ∙ line_more n (take 4 ns) (get_or ns 4 0)
  where
    five : ns ≡ take 4 ns ++ (get_or ns 4 0 ∷ [])
    five = sym (take_all 5 ns (omega arith)) ∙ take-suc ns 4 0 (omega arith)

-- six numbers, of which five are put
pub six_fields : (ns : List ℕ) → length ns ≡ 6 → {l l₁ l₂ : List ℕ} {at p q : ℕ} → Put l at (spaced (take 5 ns)) l₁ p → Put l₁ p (decimal (get_or ns 5 0) ++ (10 ∷ [])) l₂ q → Put l at (line ns) l₂ q
six_fields ns e {l} {l₁} {l₂} {at} {p} {q} f g = subst (λ (t : List ℕ). Put l at t l₂ q) (sym (line_whole ns e)) (put_then _ _ f g)

pub lines_none : (l : List ℕ) (first : ℕ) (ws : List ℕ) → Put l 0 (record_lines first ws 0) l 0
unfolding record_lines
lines_none l first ws = put_nothing l 0

pub lines_more : (first : ℕ) (ws : List ℕ) (i : ℕ) {l l₁ l₂ : List ℕ} {at p q : ℕ} → Put l at (record_lines first ws i) l₁ p
    → Put l₁ p (line ((first + i) ∷ get_or ws (6 * i + 1) 0 ∷ get_or ws (6 * i + 2) 0 ∷ get_or ws (6 * i + 3) 0 ∷ get_or ws (6 * i + 4) 0 ∷ get_or ws (6 * i + 5) 0 ∷ [])) l₂ q
    → Put l at (record_lines first ws (i + 1)) l₂ q
unfolding record_lines record_line
lines_more first ws i f g = rw add-one (put_then _ _ f g)

-- ---- where text may not fit

module _ (ns out : List ℕ) where
  pub line_none : length out < 126 → Put out 0 (line_text ns (length out)) out 0 × (0 ≤ length out) × (0 ≤ 126)
  unfolding line_text
  line_none h = (rw (lt-leb 126 (length out) h) (put_nothing out 0), omega arith, omega arith)

  pub line_put : (out₁ : List ℕ) (r : ℕ) → 126 ≤ length out → Put out 0 (line ns) out₁ r → r ≤ 126 → Put out 0 (line_text ns (length out)) out₁ r × (r ≤ length out) × (r ≤ 126)
  unfolding line_text
  line_put out₁ r h p l = (rw (le-leb 126 (length out) h) p, omega arith, omega arith)

  -- in the part of a buffer from a place on
  pub line_part : (at : ℕ) (ys : List ℕ) (r : ℕ) → 126 ≤ length out - at
      → Put (take (length out - at) (drop at out)) 0 (line_text ns (length (take (length out - at) (drop at out)))) ys r → Put out at (line ns) (put_mid at (length out - at) out ys) (at + r)
  unfolding line_text
  line_part at ys r h p = put_part out at (line ns) ys r (rw (part_long out at, le-leb 126 (length out - at) h) at p)

pub fit_room : (first words n room : ℕ) → fits first words n room ≡ true → 126 * n ≤ room
unfolding fits
fit_room first words n room e = grind (arith, nat_tests)

module _ (first n : ℕ) (ws out : List ℕ) where
  pub window_fits : (out₁ : List ℕ) (r : ℕ) → fits first (length ws) n (length out) ≡ true → Put out 0 (record_lines first ws n) out₁ r → r ≤ 126 * n
      → Put out 0 (window_text first ws n (length out)) out₁ r × (r ≤ length out) × (r ≤ 126 * n)
  unfolding window_text
  window_fits out₁ r e p h = (rw e p, omega (arith, fit_room first (length ws) n (length out) e), h)

  pub window_none : fits first (length ws) n (length out) ≡ false → Put out 0 (window_text first ws n (length out)) out 0 × (0 ≤ length out) × (0 ≤ 126 * n)
  unfolding window_text
  window_none e = (rw e (put_nothing out 0), omega arith, omega arith)

pub refused_none : (number : ℕ) (out : List ℕ) → length out < 29 → Put out 0 (refused_text number (length out)) out 0 × (0 ≤ length out) × (0 ≤ 29)
unfolding refused_text
refused_none number out h = (rw (lt-leb 29 (length out) h) (put_nothing out 0), omega arith, omega arith)

-- the bytes of `refused` and a space, then the number
pub refused_put : (number : ℕ) (out out₁ out₂ : List ℕ) (at r : ℕ) → 29 ≤ length out → Put out 0 (114 ∷ 101 ∷ 102 ∷ 117 ∷ 115 ∷ 101 ∷ 100 ∷ 32 ∷ []) out₁ at × (at ≡ 8)
    → Put out₁ at (decimal number ++ (10 ∷ [])) out₂ r → r ≤ at + 21 → Put out 0 (refused_text number (length out)) out₂ r × (r ≤ length out) × (r ≤ 29)
unfolding refused_text refused_line
refused_put number out out₁ out₂ at r h p q l =
    (rw (le-leb 29 (length out) h) (put_then _ _ p.0 q), omega (arith, p.1), omega (arith, p.1))
