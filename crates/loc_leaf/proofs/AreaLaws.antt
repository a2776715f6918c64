-- What a store does to an area's size, counted length and pieces.
-- The laws ask 16 bytes of an area only where they speak of its published length.
use Prim.Native.Nat.{ℕ, zero, suc, ◌+◌, ◌-◌, ◌*◌, ◌/◌, ◌%◌, ◌^◌, ◌≤◌, ◌<◌, min}
use mathlib.Core.Path.{◌≡◌, refl, sym, ap, ◌∙◌}
use mathlib.Core.List.{List, [], ◌∷◌, ◌++◌, append_assoc, flatten}
use native.Mathlib.Nat.{mul_comm, mul-zero, mul-suc, div-zero, mod-zero, div-mul-le_self, zero-add, suc-add, le_of_suc-le-suc, not-suc-le-zero, add_comm, zero-min, min-zero, suc-min-suc}
use native.Mathlib.Omega.{arith}
use lib.ListN.{length, take, drop, get_or, length-append, length-take}
use lib.Seq.{take_at, drop_at, take-take, drop-drop, take-nil}
use Rattle.std.specs.Prelude.{Option, Some, None, SomeIff, unwrap_or}
use Rattle.loc_leaf.specs.Bytes.{Bytes, bytes, number_at, store}
use Rattle.loc_leaf.specs.Area.{counted, store_length, store_past, pieces, fill, InPieces}
use Rattle.loc_leaf.proofs.Stored.{length_bytes, at_first, length_store, take_store, drop_store, drop_stored}

-- ---- lists

pub take_drop : {A : Type 0} (n m : ℕ) (l : List A) → take n (drop m l) ≡ drop m (take (m + n) l)
take_drop n zero l = rw (zero-add n) refl
take_drop n (suc m) [] = rw (suc-add m n) (take-nil n)
take_drop n (suc m) (x ∷ l) = rw (suc-add m n) (take_drop n m l)

pub take_own : {A : Type 0} (j : ℕ) (l : List A) → take (length (take j l)) l ≡ take j l
take_own zero l = refl
take_own (suc j) [] = refl
take_own {A} (suc j) (x ∷ l) = ap {B = List A} (λ r. x ∷ r) (take_own j l)

pub take_twice : {A : Type 0} (i j : ℕ) (l : List A) → take i (take j l) ≡ take (min i j) l
take_twice zero j l = rw (zero-min j) refl
take_twice (suc i) zero l = rw (min-zero (suc i)) refl
take_twice (suc i) (suc j) [] = rw (suc-min-suc i j) refl
take_twice {A} (suc i) (suc j) (x ∷ l) = rw (suc-min-suc i j) (ap {B = List A} (λ r. x ∷ r) (take_twice i j l))

-- a number past the end counts as the length
pub take_min : {A : Type 0} (n : ℕ) (l : List A) → take (min n (length l)) l ≡ take n l
take_min n l = rw (← length-take n l) (take_own n l)

pub drop_min : {A : Type 0} (n : ℕ) (l : List A) → drop (min n (length l)) l ≡ drop n l
drop_min zero l = rw (zero-min (length l)) refl
drop_min (suc n) [] = rw (min-zero (suc n)) refl
drop_min (suc n) (x ∷ l) = rw (suc-min-suc n (length l)) (drop_min n l)

-- ---- the counted length depends on the first 16 bytes and the size

pub counted_cong : (xs ys : Bytes) → take 16 xs ≡ take 16 ys → length xs ≡ length ys → counted xs ≡ counted ys
unfolding counted number_at
counted_cong xs ys h l = rw (take_drop 8 8 xs, take_drop 8 8 ys, h, l) refl

pub counted_le : (xs : Bytes) → counted xs ≤ length xs
unfolding counted
counted_le xs = omega arith

pub counted_ge : (xs : Bytes) → 16 ≤ length xs → 16 ≤ counted xs
unfolding counted
counted_ge xs h = omega arith

-- ---- what is published, in pieces

-- a division that is checked gives the quotient and the remainder, which by 0 are 0 and the whole
quotient : (o : Option ℕ) (n w : ℕ) → SomeIff o (0 < w) (n / w) → unwrap_or o 0 ≡ n / w
quotient None n zero h = sym (div-zero n)
quotient None n (suc w) h = absurd (h (omega arith))
quotient (Some q) n w h = h.1

remainder : (o : Option ℕ) (n w : ℕ) → SomeIff o (0 < w) (n % w) → unwrap_or o n ≡ n % w
remainder None n zero h = sym (mod-zero n)
remainder None n (suc w) h = absurd (h (omega arith))
remainder (Some q) n w h = h.1

module _ (w : ℕ) (xs : Bytes) (end : ℕ) (e : end ≡ counted xs) (q r : Option ℕ) where
  pub in_pieces : SomeIff q (0 < w) ((end - 16) / w) → SomeIff r (0 < w) ((end - 16) % w)
      → InPieces w xs (record { end = end; count = unwrap_or q 0; left = unwrap_or r (end - 16) })
  unfolding fill
  in_pieces f g = record {
    end = e;
    count = quotient q (end - 16) w f ∙ rw e refl;
    left = remainder r (end - 16) w g ∙ rw e refl;
    inside = omega (arith, counted_le xs);
    room = rw (quotient q (end - 16) w f) (omega (arith, mul_comm w ((end - 16) / w), div-mul-le_self (end - 16) w, counted_le xs));
  }

-- ---- a stored length

pub length_store_length : (v : ℕ) (xs : Bytes) → length (store_length v xs) ≡ length xs
unfolding store_length
length_store_length v xs = length_store 8 (bytes 8 v) xs

pub drop_store_length : (v : ℕ) (xs : Bytes) → drop 16 (store_length v xs) ≡ drop 16 xs
unfolding store_length
drop_store_length v xs = drop_store 16 8 (bytes 8 v) xs (omega (arith, length_bytes 8 v))

pub counted_store_length : (v : ℕ) (xs : Bytes) → 16 ≤ v → v ≤ length xs → v < 2 ^ 64 → counted (store_length v xs) ≡ v
unfolding counted store_length number_at
counted_store_length v xs g h l = rw (there, length_store 8 (bytes 8 v) xs) (omega arith)
  where
    there : number_at 8 8 (store 8 (bytes 8 v) xs) ≡ v
    there = ap (number_at 8 0) (drop_stored 8 (bytes 8 v) xs (omega (arith, length_bytes 8 v))) ∙ at_first 8 v (drop (8 + length (bytes 8 v)) xs) (omega arith)

-- ---- bytes past the published end

pub length_store_past : (bs xs : Bytes) → length (store_past bs xs) ≡ length xs
unfolding store_past
length_store_past bs xs = length_store (counted xs) bs xs

pub counted_store_past : (bs xs : Bytes) → 16 ≤ length xs → counted (store_past bs xs) ≡ counted xs
unfolding store_past
counted_store_past bs xs g = counted_cong (store_past bs xs) xs (take_store 16 (counted xs) bs xs (counted_ge xs g)) (length_store_past bs xs)

-- ---- pieces

pub length_pieces : (w n : ℕ) (xs : Bytes) → length (pieces w n xs) ≡ n
unfolding pieces
length_pieces w zero xs = refl
length_pieces w (suc n) xs = ap suc (length_pieces w n (drop w xs))

pub pieces_take : (w m n : ℕ) (xs : Bytes) → m ≤ n → pieces w m xs ≡ take m (pieces w n xs)
unfolding pieces
pieces_take w zero n xs h = refl
pieces_take w (suc m) zero xs h = absurd (not-suc-le-zero h)
pieces_take w (suc m) (suc n) xs h = ap (λ (l : List Bytes). take w xs ∷ l) (pieces_take w m n (drop w xs) (le_of_suc-le-suc h))

pub pieces_add : (w n m : ℕ) (xs : Bytes) → pieces w (n + m) xs ≡ pieces w n xs ++ pieces w m (drop (w * n) xs)
unfolding pieces
pieces_add w zero m xs = rw (zero-add m, mul-zero w) refl
pieces_add w (suc n) m xs =
    rw (suc-add n m, pieces_add w n m (drop w xs), drop-drop (w * n) w xs, mul-suc w n, add_comm w (w * n)) refl

-- the first n pieces depend on the first w × n bytes
pub pieces_cong : (w n : ℕ) (xs ys : Bytes) → take (w * n) xs ≡ take (w * n) ys → pieces w n xs ≡ pieces w n ys
unfolding pieces
pieces_cong w zero xs ys h = refl
pieces_cong w (suc n) xs ys h = rw (first, pieces_cong w n (drop w xs) (drop w ys) rest) refl
  where
    cut : (zs : Bytes) → take w zs ≡ take w (take (w * suc n) zs)
    cut zs = sym (take-take w (w * suc n) zs (omega (arith, mul-suc w n)))

    first : take w xs ≡ take w ys
    first = cut xs ∙ ap (take w) h ∙ sym (cut ys)

    past : (zs : Bytes) → take (w * n) (drop w zs) ≡ drop w (take (w * suc n) zs)
    past zs = take_drop (w * n) w zs ∙ ap (λ (i : ℕ). drop w (take i zs)) (add_comm w (w * n) ∙ sym (mul-suc w n))

    rest : take (w * n) (drop w xs) ≡ take (w * n) (drop w ys)
    rest = past xs ∙ ap (drop w) h ∙ sym (past ys)

pub pieces_get : (w n : ℕ) (xs : Bytes) (i : ℕ) → i < n → get_or (pieces w n xs) i [] ≡ take w (drop (w * i) xs)
unfolding pieces
pieces_get w zero xs i h = absurd (not-suc-le-zero h)
pieces_get w (suc n) xs zero h = rw (mul-zero w) refl
pieces_get w (suc n) xs (suc i) h =
    pieces_get w n (drop w xs) i (le_of_suc-le-suc h)
    ∙ ap (take w) (drop-drop (w * i) w xs ∙ ap (λ (j : ℕ). drop j xs) (add_comm w (w * i) ∙ sym (mul-suc w i)))

-- pieces that are all of one width
unfoldable pub Widths : ℕ → List Bytes → Type 0
Widths w [] = Unit
Widths w (b ∷ bs) = (length b ≡ w) × Widths w bs

pub length_flatten : (w : ℕ) (bs : List Bytes) → Widths w bs → length (flatten bs) ≡ w * length bs
unfolding Widths flatten
length_flatten w [] h = sym (mul-zero w)
length_flatten w (b ∷ bs) h = rw (length-append b (flatten bs), length_flatten w bs h.1, h.0, mul-suc w (length bs)) (omega arith)

pub pieces_flatten : (w : ℕ) (bs : List Bytes) (rest : Bytes) → Widths w bs → pieces w (length bs) (flatten bs ++ rest) ≡ bs
unfolding Widths flatten pieces
pieces_flatten w [] rest h = refl
pieces_flatten w (b ∷ bs) rest h =
    rw (append_assoc b (flatten bs) rest, take_at b (flatten bs ++ rest) w h.0, drop_at b (flatten bs ++ rest) w h.0, pieces_flatten w bs rest h.1) refl
