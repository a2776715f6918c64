-- The first of a list of rows: how many are numbered up to n, and how many of those up to less.
-- For rows that are cut at a number.
use Prim.Native.Nat.{ℕ, ◌≤◌, ◌<◌}
use mathlib.Core.Path.{◌≡◌, refl, sym}
use mathlib.Core.Logic.{◌⊎◌, inl, inr}
use mathlib.Core.Bool.{true, false}
use mathlib.Core.List.{List, [], ◌∷◌}
use native.Mathlib.Omega.{arith}
use lib.Dec.{leb, ltb}
use lib.ListN.{length, take}
use borrow.Author.Tests.{le-leb, lt-leb, leb-true, leb-false, ltb-true}
use Rattle.loc_leaf.specs.Bytes.{Bytes}
use Rattle.loc_leaf.specs.Rows.{row_number, ascending, last_number, rows_up_to}
use Rattle.loc_leaf.proofs.Booleans.{is?, both_left, both_right}
use Rattle.loc_leaf.proofs.RowLaws.{none_up_to}

-- the rows up to n hold all rows up to a smaller number
pub up_to_first : (m n b : ℕ) (rs : List Bytes) → m ≤ n → ascending b rs ≡ true → rows_up_to m (take (rows_up_to n rs) rs) ≡ rows_up_to m rs
unfolding ascending rows_up_to
up_to_first m n b [] h a = refl
up_to_first m n b (r ∷ rs) h a = go (is? (leb (row_number r) n)) (up_to_first m n (row_number r) rs h rest)
  where
    rest : ascending (row_number r) rs ≡ true
    rest = both_right (ltb b (row_number r)) (ascending (row_number r) rs) a

    go : (leb (row_number r) n ≡ true) ⊎ (leb (row_number r) n ≡ false) → rows_up_to m (take (rows_up_to n rs) rs) ≡ rows_up_to m rs
        → rows_up_to m (take (rows_up_to n (r ∷ rs)) (r ∷ rs)) ≡ rows_up_to m (r ∷ rs)
    go (inl t) more = rw (t, more) refl
    go (inr t) more =
        let g : n < row_number r = leb-false (row_number r) n t in
        let x : leb (row_number r) m ≡ false = lt-leb (row_number r) m (omega arith) in
        rw (t, (none_up_to n (row_number r) rs (omega arith) rest).0, x) (sym (none_up_to m (row_number r) rs (omega arith) rest).0)

pub up_to_le : (n : ℕ) (rs : List Bytes) → rows_up_to n rs ≤ length rs
unfolding rows_up_to
up_to_le n [] = omega arith
up_to_le n (r ∷ rs) = go (is? (leb (row_number r) n)) (up_to_le n rs)
  where
    go : (leb (row_number r) n ≡ true) ⊎ (leb (row_number r) n ≡ false) → rows_up_to n rs ≤ length rs → rows_up_to n (r ∷ rs) ≤ length (r ∷ rs)
    go (inl t) more = rw t (omega arith)
    go (inr t) more = rw t (omega arith)

-- ---- the last number tells whether all rows are numbered up to n

last_above : (b : ℕ) (rs : List Bytes) → ascending b rs ≡ true → b ≤ last_number b rs
unfolding ascending last_number
last_above b [] a = omega arith
last_above b (r ∷ rs) a =
    omega (
      arith,
      ltb-true b (row_number r) (both_left (ltb b (row_number r)) (ascending (row_number r) rs) a),
      last_above (row_number r) rs (both_right (ltb b (row_number r)) (ascending (row_number r) rs) a),
    )

pub up_to_all : (n b : ℕ) (rs : List Bytes) → ascending b rs ≡ true → last_number b rs ≤ n → rows_up_to n rs ≡ length rs
unfolding ascending last_number rows_up_to
up_to_all n b [] a h = refl
up_to_all n b (r ∷ rs) a h =
    let rest : ascending (row_number r) rs ≡ true = both_right (ltb b (row_number r)) (ascending (row_number r) rs) a in
    rw (le-leb (row_number r) n (omega (arith, last_above (row_number r) rs rest)), up_to_all n (row_number r) rs rest h) refl

pub up_to_fewer : (n b : ℕ) (rs : List Bytes) → b ≤ n → n < last_number b rs → rows_up_to n rs < length rs
unfolding last_number rows_up_to
up_to_fewer n b [] g h = absurd (omega arith)
up_to_fewer n b (r ∷ rs) g h = go (is? (leb (row_number r) n)) (λ l. up_to_fewer n (row_number r) rs l h)
  where
    go : (leb (row_number r) n ≡ true) ⊎ (leb (row_number r) n ≡ false) → (row_number r ≤ n → rows_up_to n rs < length rs) → rows_up_to n (r ∷ rs) < length (r ∷ rs)
    go (inl t) more = rw t (omega (arith, more (leb-true (row_number r) n t)))
    go (inr t) more = rw t (omega (arith, up_to_le n rs))
