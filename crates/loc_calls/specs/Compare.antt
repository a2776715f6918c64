-- Which corpus sorts first (document 02, Item 11): two paired indexes record by record, body length first, then span count.
-- 0: the first sorts first; 1: equal; 2: otherwise. A list that is the beginning of the other comes first.
use Rattle.std.specs.Prelude.{ℕ, zero, suc, ◌-◌, ◌*◌, ◌≤◌, ◌≡◌, ◌⊎◌, ◌↔◌, cond, List, [], ◌∷◌, ltb}
use Rattle.loc_leaf.specs.declared.Kind.{Kind}
use Rattle.loc_leaf.specs.declared.Kind.TheVariants.{Paired}
use Rattle.loc_leaf.specs.Answers.{◌or_else◌, answer, Answer}
use Rattle.loc_calls.specs.Areas.{Areas, count}
use Rattle.loc_calls.specs.Reading.{value_at}
use Rattle.loc_calls.specs.Calls.{Outcome, whole_refusal}

-- what is compared of a record: its length in bytes and its span count
pub record Rec : Type 0 where
  pub len : ℕ
  pub spans : ℕ

-- ---- the order on lists

-- the smaller number first; between equal ones what comes after decides
abbrev pub by_number : ℕ → ℕ → ℕ → ℕ
by_number x y later = cond (ltb x y) 0 (cond (ltb y x) 2 later)

-- body length first, then span count
abbrev pub by_record : Rec → Rec → ℕ → ℕ
by_record r q later = by_number r.len q.len (by_number r.spans q.spans later)

unfoldable pub list_order : List Rec → List Rec → ℕ
list_order [] [] = 1
list_order [] (q ∷ M) = 0
list_order (r ∷ L) [] = 2
list_order (r ∷ L) (q ∷ M) = by_record r q (list_order L M)

-- L comes before M, or they are equal
abbrev pub NotAfter : List Rec → List Rec → Type 0
NotAfter L M = list_order L M ≤ 1

-- a total order on lists; turned round, the first is the second, and 1 is given for the same list only
pub record TotalOrder : Type 0 where
  pub antisymmetric : (L M : List Rec) → NotAfter L M → NotAfter M L → L ≡ M
  pub transitive : (L M N : List Rec) → NotAfter L M → NotAfter M N → NotAfter L N
  pub total : (L M : List Rec) → NotAfter L M ⊎ NotAfter M L
  pub equal : (L M : List Rec) → (list_order L M ≡ 1) ↔ (L ≡ M)
  pub turned : (L M : List Rec) → list_order M L ≡ 2 - list_order L M
  pub of_three : (L M : List Rec) → list_order L M ≤ 2

-- ---- the records of an index

-- what slot and row say of record id: a length is strides × 8
unfoldable pub record_at : Kind → Areas → ℕ → Rec
record_at k a id = record { len = 8 * (value_at k a id).strides; spans = (value_at k a id).spans }

-- the n records that follow record m
unfoldable pub records_after : Kind → Areas → ℕ → ℕ → List Rec
records_after k a m zero = []
records_after k a m (suc n) = record_at k a (suc m) ∷ records_after k a (suc m) n

unfoldable pub records_in : Kind → Areas → List Rec
records_in k a = records_after k a 0 (count a)

-- ---- the call

-- 1, 6, 17 for the first index, then for the second: both are read whole
unfoldable pub compare_refusal : Areas → Areas → ℕ
compare_refusal a b = whole_refusal Paired a or_else whole_refusal Paired b

unfoldable pub compare : Areas → Areas → Answer
compare a b = answer (compare_refusal a b) (list_order (records_in Paired a) (records_in Paired b))

-- as the outcome of a call on the first index: it stores nothing in either
unfoldable pub compare_outcome : Areas → Areas → Outcome
compare_outcome b a = record { answer = compare a b; buffer = []; areas = a }
