-- The book's counts, ends and first parts against those of a list of records with their places.
-- A record with a value stored as 0 is one whose slot needs a row.
use Prim.Native.Nat.{ℕ, zero, suc, ◌+◌, ◌*◌, ◌/◌, ◌≤◌, ◌<◌}
use mathlib.Core.Path.{◌≡◌, refl, sym, ap, ◌∙◌}
use mathlib.Core.Logic.{◌⊎◌, inl, inr}
use mathlib.Core.Bool.{Bool, true, false, cond}
use mathlib.Core.List.{List, [], ◌∷◌, ◌++◌, map}
use native.Mathlib.Nat.{zero-add}
use native.Mathlib.Omega.{arith}
use lib.Dec.{leb}
use lib.ListN.{length, take, length-map}
use lib.Seq.{length-take-le}
use borrow.Author.Tests.{leb-true, leb-false}
use Rattle.loc_leaf.specs.declared.Kind.{Kind}
use Rattle.loc_leaf.specs.Slot.{stored_as_zero}
use Rattle.loc_leaf.specs.Rows.{row}
use Rattle.loc_leaf.proofs.Booleans.{is?}
use Rattle.loc_leaf.proofs.ValueLaws.{needs_row_lem}
use Rattle.loc_calls.specs.Table.{Entry, value_of}
use Rattle.loc_calls.specs.Stores.{gather, row_of}
use Rattle.loc_calls.proofs.Gathered.{AllValid, valid_take, rows_in, rows_in_zero}
use Rattle.loc_calls.proofs.Chains.{lens, spans}
use Rattle.loc_calls.proofs.Appending.{whole_ends}
use Rattle.loc_calls.proofs.Opening.{Kept}
use Rattle.loc_history.specs.Book.{Rec, rec_of, len_sum, span_sum, body_end, span_end, checkpoint_count, takes_row, row_count, book_ends, longest, longest_part}

pub map_take : {A B : Type 0} (f : A → B) (n : ℕ) (l : List A) → map f (take n l) ≡ take n (map f l)
map_take f zero l = refl
map_take f (suc n) [] = refl
map_take {A} {B} f (suc n) (x ∷ l) = ap {B = List B} (λ r. f x ∷ r) (map_take f n l)

-- ---- sums and ends

len_sum_lem : (E : List Entry) → len_sum (map rec_of E) ≡ lens E
unfolding len_sum lens rec_of
len_sum_lem [] = refl
len_sum_lem (e ∷ E) = ap (λ (n : ℕ). e.len + n) (len_sum_lem E)

span_sum_lem : (E : List Entry) → span_sum (map rec_of E) ≡ spans E
unfolding span_sum spans rec_of
span_sum_lem [] = refl
span_sum_lem (e ∷ E) = ap (λ (n : ℕ). e.spans + n) (span_sum_lem E)

pub body_end_lem : (E : List Entry) → body_end (map rec_of E) ≡ 16 + lens E
unfolding body_end
body_end_lem E = ap (λ (n : ℕ). 16 + n) (len_sum_lem E)

pub span_end_lem : (E : List Entry) → span_end (map rec_of E) ≡ 16 + 8 * spans E
unfolding span_end
span_end_lem E = ap (λ (n : ℕ). 16 + 8 * n) (span_sum_lem E)

-- ---- rows

pub rows_append : (k : Kind) (L M : List Rec) → row_count k (L ++ M) ≡ row_count k L + row_count k M
unfolding row_count
rows_append k [] M = sym (zero-add (row_count k M))
rows_append k (r ∷ L) M = go (rows_append k L M) (takes_row k r)
  where
    go : row_count k (L ++ M) ≡ row_count k L + row_count k M → (b : Bool)
        → cond b (suc (row_count k (L ++ M))) (row_count k (L ++ M)) ≡ cond b (suc (row_count k L)) (row_count k L) + row_count k M
    go ih true = omega arith
    go ih false = ih

pub row_count_lem : (k : Kind) (n : ℕ) (es : List Entry) → AllValid k es → row_count k (map rec_of es) ≡ length (gather (row_of k) n es)
unfolding gather row_of row_count AllValid rec_of takes_row value_of
row_count_lem k n [] v = refl
row_count_lem k n (e ∷ es) v = rw (needs_row_lem k (value_of e) v.0.value) (go (row_count_lem k (suc n) es v.1) (stored_as_zero k (value_of e)))
  where
    go : row_count k (map rec_of es) ≡ length (gather (row_of k) (suc n) es) → (b : Bool)
        → cond b (suc (row_count k (map rec_of es))) (row_count k (map rec_of es)) ≡ length (cond b (row k (suc n) (value_of e) ∷ []) [] ++ gather (row_of k) (suc n) es)
    go ih true = ap suc ih
    go ih false = ih

pub ends_are : (k : Kind) (E : List Entry) → AllValid k E → book_ends k (map rec_of E) ≡ whole_ends k E
unfolding book_ends whole_ends checkpoint_count
ends_are k E v = rw (length-map E rec_of, row_count_lem k 0 E v) refl

-- of a first part
module _ (k : Kind) (E : List Entry) (v : AllValid k E) (n : ℕ) where
  pub rows_part : row_count k (take n (map rec_of E)) ≡ rows_in k E n
  unfolding rows_in
  rows_part = ap (row_count k) (sym (map_take rec_of n E)) ∙ row_count_lem k 0 (take n E) (valid_take k n E v)

  pub checkpoints_part : n ≤ length E → checkpoint_count (take n (map rec_of E)) ≡ n / 1024
  unfolding checkpoint_count
  checkpoints_part h = ap (λ (i : ℕ). i / 1024) (length-take-le n (map rec_of E) (rw (length-map E rec_of) h))

-- ---- the book's longest first part is the one that an opening keeps

record Longest (k : Kind) (E : List Entry) (r c m : ℕ) : Type 0 where
  n : ℕ
  kept : Kept k E r c n
  is : longest k c r (map rec_of E) m ≡ map rec_of (take n E)

find : (k : Kind) (E : List Entry) (r c m : ℕ) → AllValid k E → m ≤ length E → (m < length E → (c < suc m / 1024) ⊎ (r < rows_in k E (suc m))) → Longest k E r c m
unfolding longest
find k E r c zero v g top = record { n = 0; kept = record { inside = g; checkpoints = omega arith; rows = omega (arith, rows_in_zero k E); top = top }; is = refl }
find k E r c (suc m) v g top = go (is? (leb C c)) (is? (leb R r)) (find k E r c m v (omega arith))
  where
    C : ℕ
    C = checkpoint_count (take (suc m) (map rec_of E))

    R : ℕ
    R = row_count k (take (suc m) (map rec_of E))

    go : (leb C c ≡ true) ⊎ (leb C c ≡ false) → (leb R r ≡ true) ⊎ (leb R r ≡ false)
        → ((m < length E → (c < suc m / 1024) ⊎ (r < rows_in k E (suc m))) → Longest k E r c m)
        → Longest k E r c (suc m)
    go (inl p) (inl q) ih = record {
      n = suc m;
      kept = record { inside = g; checkpoints = rw (checkpoints_part k E v (suc m) g) at (leb-true C c p); rows = rw (rows_part k E v (suc m)) at (leb-true R r q); top = top };
      is = rw (p, q) (sym (map_take rec_of (suc m) E));
    }
    go (inl p) (inr q) ih =
        let t : Longest k E r c m = ih (λ _. inr (rw (rows_part k E v (suc m)) at (leb-false R r q))) in
        record { n = t.n; kept = t.kept; is = rw (p, q) t.is }
    go (inr p) d ih =
        let t : Longest k E r c m = ih (λ _. inl (rw (checkpoints_part k E v (suc m) g) at (leb-false C c p))) in
        record { n = t.n; kept = t.kept; is = rw p t.is }

pub record LongestPart (k : Kind) (E : List Entry) (r c : ℕ) : Type 0 where
  pub n : ℕ
  pub kept : Kept k E r c n
  pub is : longest_part k c r (map rec_of E) ≡ map rec_of (take n E)

pub longest_part_lem : (k : Kind) (E : List Entry) (r c : ℕ) → AllValid k E → LongestPart k E r c
unfolding longest_part
longest_part_lem k E r c v =
    let t : Longest k E r c (length E) = find k E r c (length E) v (omega arith) (λ h. absurd (too h)) in
    record { n = t.n; kept = t.kept; is = rw (length-map E rec_of) t.is }
  where
    too : length E < length E → ⊥
    too h = omega arith
