-- The order on lists of records is total: equal for the same list only, the other way when turned round, and transitive.
-- Lists that begin alike are ordered as what follows is.
use Prim.Native.Nat.{ℕ, zero, suc, ◌+◌, ◌-◌, ◌≤◌, ◌<◌}
use mathlib.Core.Path.{◌≡◌, refl, sym, ap, ◌∙◌}
use mathlib.Core.Logic.{◌⊎◌, inl, inr, ◌↔◌}
use mathlib.Core.List.{List, [], ◌∷◌, ◌++◌}
use native.Mathlib.Decide.{dec_le}
use native.Mathlib.Omega.{arith}
use borrow.Author.Tests.{lt-ltb, le-ltb}
use Rattle.loc_calls.specs.Compare.{Rec, by_number, by_record, list_order, NotAfter, TotalOrder}

-- ---- two numbers

-- which is smaller decides, or what comes after does
data Decided (x y later : ℕ) : Type 0 where
  below : x < y → by_number x y later ≡ 0 → Decided x y later
  same : x ≡ y → by_number x y later ≡ later → Decided x y later
  above : y < x → by_number x y later ≡ 2 → Decided x y later

decided : (x y later : ℕ) → Decided x y later
decided x y l = go (dec_le x y) (dec_le y x)
  where
    go : Dec (x ≤ y) → Dec (y ≤ x) → Decided x y l
    go (yes p) (yes q) = same (omega arith) (rw (le-ltb x y q, le-ltb y x p) refl)
    go (yes p) (no q) = let h : x < y = omega arith in below h (rw (lt-ltb x y h) refl)
    go (no p) _ = let h : y < x = omega arith in above h (rw (le-ltb x y (omega arith), lt-ltb y x h) refl)

by_most : (x y l : ℕ) → l ≤ 2 → by_number x y l ≤ 2
by_most x y l h = go (decided x y l)
  where
    go : Decided x y l → by_number x y l ≤ 2
    go (below _ e) = omega (arith, e)
    go (same _ e) = omega (arith, e)
    go (above _ e) = omega (arith, e)

by_turned : (x y l m : ℕ) → m ≡ 2 - l → by_number y x m ≡ 2 - by_number x y l
by_turned x y l m e = go (decided x y l) (decided y x m)
  where
    go : Decided x y l → Decided y x m → by_number y x m ≡ 2 - by_number x y l
    go (below p _) (below q _) = absurd (omega arith)
    go (below p _) (same q _) = absurd (omega arith)
    go (below p f) (above q g) = omega arith
    go (same p _) (below q _) = absurd (omega arith)
    go (same p f) (same q g) = omega arith
    go (same p _) (above q _) = absurd (omega arith)
    go (above p f) (below q g) = omega arith
    go (above p _) (same q _) = absurd (omega arith)
    go (above p _) (above q _) = absurd (omega arith)

by_equal : (x y l : ℕ) → by_number x y l ≡ 1 → (x ≡ y) × (l ≡ 1)
by_equal x y l e = go (decided x y l)
  where
    go : Decided x y l → (x ≡ y) × (l ≡ 1)
    go (below _ f) = absurd (omega arith)
    go (same p f) = (p, omega arith)
    go (above _ f) = absurd (omega arith)

pub by_same : (x l : ℕ) → by_number x x l ≡ l
by_same x l = rw (le-ltb x x (omega arith)) refl

-- not after: below, or equal and what comes after is not
by_not_after : (x y l : ℕ) → by_number x y l ≤ 1 → (x < y) ⊎ ((x ≡ y) × (l ≤ 1))
by_not_after x y l h = go (decided x y l)
  where
    go : Decided x y l → (x < y) ⊎ ((x ≡ y) × (l ≤ 1))
    go (below p _) = inl p
    go (same p e) = inr (p, omega arith)
    go (above _ e) = absurd (omega arith)

not_after_by : (x y l : ℕ) → (x < y) ⊎ ((x ≡ y) × (l ≤ 1)) → by_number x y l ≤ 1
not_after_by x y l (inl p) = rw (lt-ltb x y p) (omega arith)
not_after_by x y l (inr p) = rw (le-ltb x y (omega (arith, p.0)), le-ltb y x (omega (arith, p.0))) p.1

by_later : (x y z l m n : ℕ) → (l ≤ 1 → m ≤ 1 → n ≤ 1) → by_number x y l ≤ 1 → by_number y z m ≤ 1 → by_number x z n ≤ 1
by_later x y z l m n h p q = not_after_by x z n (go (by_not_after x y l p) (by_not_after y z m q))
  where
    go : (x < y) ⊎ ((x ≡ y) × (l ≤ 1)) → (y < z) ⊎ ((y ≡ z) × (m ≤ 1)) → (x < z) ⊎ ((x ≡ z) × (n ≤ 1))
    go (inl u) (inl v) = inl (omega arith)
    go (inl u) (inr v) = inl (omega (arith, v.0))
    go (inr u) (inl v) = inl (omega (arith, u.0))
    go (inr u) (inr v) = inr (u.0 ∙ v.0, h u.1 v.1)

-- ---- lists

most : (L M : List Rec) → list_order L M ≤ 2
unfolding list_order
most [] [] = omega arith
most [] (q ∷ M) = omega arith
most (r ∷ L) [] = omega arith
most (r ∷ L) (q ∷ M) = by_most r.len q.len _ (by_most r.spans q.spans _ (most L M))

turned : (L M : List Rec) → list_order M L ≡ 2 - list_order L M
unfolding list_order
turned [] [] = refl
turned [] (q ∷ M) = refl
turned (r ∷ L) [] = refl
turned (r ∷ L) (q ∷ M) = by_turned r.len q.len _ _ (by_turned r.spans q.spans _ _ (turned L M))

pub equal_same : (L M : List Rec) → list_order L M ≡ 1 → L ≡ M
unfolding list_order
equal_same [] [] e = refl
equal_same [] (q ∷ M) e = absurd (omega arith)
equal_same (r ∷ L) [] e = absurd (omega arith)
equal_same (r ∷ L) (q ∷ M) e =
    let p = by_equal r.len q.len _ e in
    let s = by_equal r.spans q.spans _ p.1 in
    (λ i. record { len = p.0 i; spans = s.0 i } ∷ equal_same L M s.1 i)

-- what two lists have in common at their beginning decides nothing
pub ordered_alike : (P L M : List Rec) → list_order (P ++ L) (P ++ M) ≡ list_order L M
unfolding list_order
ordered_alike [] L M = refl
ordered_alike (r ∷ P) L M = by_same r.len _ ∙ by_same r.spans _ ∙ ordered_alike P L M

same_equal : (L M : List Rec) → L ≡ M → list_order L M ≡ 1
same_equal L M e = ap (λ (N : List Rec). list_order L N) (sym e) ∙ self
  where
    self : list_order L L ≡ 1
    self = omega (arith, turned L L, most L L)

transitive : (L M N : List Rec) → NotAfter L M → NotAfter M N → NotAfter L N
unfolding list_order
transitive [] M [] p q = omega arith
transitive [] M (n ∷ N) p q = omega arith
transitive (r ∷ L) [] N p q = absurd (omega arith)
transitive (r ∷ L) (m ∷ M) [] p q = absurd (omega arith)
transitive (r ∷ L) (m ∷ M) (n ∷ N) p q =
    by_later r.len m.len n.len _ _ _ (λ u v. by_later r.spans m.spans n.spans _ _ _ (transitive L M N) u v) p q

pub total_order : TotalOrder
total_order = record {
  antisymmetric = λ L M p q. equal_same L M (omega (arith, p, q, turned L M, most L M));
  transitive = transitive;
  total = λ L M. either L M (dec_le (list_order L M) 1);
  equal = λ L M. (equal_same L M, same_equal L M);
  turned = turned;
  of_three = most;
}
  where
    either : (L M : List Rec) → Dec (list_order L M ≤ 1) → NotAfter L M ⊎ NotAfter M L
    either L M (yes p) = inl p
    either L M (no p) = inr (omega (arith, p, turned L M))
