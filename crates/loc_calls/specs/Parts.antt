-- Composites after their parts (document 02, Item 9): the records that a record needs, by pairs of composite and component.
-- `Needs` is what chains of pairs reach, and `needed` the ascending list of it; a pair is the entries of two lists at one place.
use Rattle.std.specs.Prelude.{ℕ, zero, suc, ◌≤◌, ◌<◌, ◌≡◌, Bool, true, false, cond, not, ◌&&◌, ◌||◌, List, [], ◌∷◌, ◌++◌, leb, ltb, eqb, length, get_or, drop}
use Rattle.loc_leaf.specs.declared.Kind.TheVariants.{Paired}
use Rattle.loc_leaf.specs.Answers.{refuse, ◌or_else◌, answer}
use Rattle.loc_calls.specs.Areas.{Areas, count}
use Rattle.loc_calls.specs.Reading.{within}
use Rattle.loc_calls.specs.Calls.{Outcome, unless_refused, first_refusal}

-- ---- over the numbers below n

-- one of them passes a test
unfoldable pub some_below : (ℕ → Bool) → ℕ → Bool
some_below f zero = false
some_below f (suc n) = some_below f n || f n

-- those that pass, ascending
unfoldable pub those_below : (ℕ → Bool) → ℕ → List ℕ
those_below f zero = []
those_below f (suc n) = those_below f n ++ cond (f n) (n ∷ []) []

-- ---- what a record needs

-- x and y stand at one place, x among the composites and y among the components
pub record PairOf (cs ps : List ℕ) (x y : ℕ) : Type 0 where
  pub place : ℕ
  pub inside : place < length cs
  pub composite : get_or cs place 0 ≡ x
  pub component : get_or ps place 0 ≡ y

-- directly, or through others
pub data Needs (cs ps : List ℕ) : ℕ → ℕ → Type 0 where
  direct : {x y : ℕ} → PairOf cs ps x y → Needs cs ps x y
  through : {x z y : ℕ} → PairOf cs ps x z → Needs cs ps z y → Needs cs ps x y

-- a chain of at most t pairs leads from x to y
unfoldable pub reaches : List ℕ → List ℕ → ℕ → ℕ → ℕ → Bool
reaches cs ps zero x y = false
reaches cs ps (suc t) x y = some_below (λ i. eqb (get_or cs i 0) x && (eqb (get_or ps i 0) y || reaches cs ps t (get_or ps i 0) y)) (length cs)

-- each one time, ascending; components lie below their composites, so no chain from x has more than x pairs
unfoldable pub needed : List ℕ → List ℕ → ℕ → List ℕ
needed cs ps x = those_below (reaches cs ps x x) x

-- ---- refusals

-- 27, of n records: a number in the pair (c, p) that is 0 or past the count
unfoldable pub strange : ℕ → ℕ → ℕ → Bool
strange n c p = not (within n c && within n p)

-- by composite and then component, the pair (d, q) comes before (c, p)
unfoldable pub comes_before : ℕ → ℕ → ℕ → ℕ → Bool
comes_before d q c p = ltb d c || (eqb d c && ltb q p)

-- 29, of the pair at place i: the one before it does not come before it. (0, 0) stands before the first, whose composite 27 keeps above 0
unfoldable pub misplaced : List ℕ → List ℕ → ℕ → Bool
misplaced cs ps i = not (comes_before (get_or (0 ∷ cs) i 0) (get_or (0 ∷ ps) i 0) (get_or cs i 0) (get_or ps i 0))

-- 27; 28, a component not below its composite; 29: each over all of the first m pairs before the next
unfoldable pub first_fault : ℕ → List ℕ → List ℕ → ℕ → ℕ
first_fault n cs ps m =
    refuse (some_below (λ i. strange n (get_or cs i 0) (get_or ps i 0)) m) 27
    or_else refuse (some_below (λ i. leb (get_or cs i 0) (get_or ps i 0)) m) 28
    or_else refuse (some_below (misplaced cs ps) m) 29

-- 7: the lists differ in length; 15: more than 1,024 pairs; 27, of the record x too; 28; 29
unfoldable pub pairs_refusal : ℕ → List ℕ → List ℕ → ℕ → ℕ
pairs_refusal n cs ps x =
    refuse (not (eqb (length cs) (length ps))) 7
    or_else refuse (ltb 1024 (length cs)) 15
    or_else refuse (not (within n x)) 27
    or_else first_fault n cs ps (length cs)

-- the table of n records: these, and 16 last, fewer words than the answer has records
unfoldable pub parts_table : ℕ → List ℕ → List ℕ → ℕ → List ℕ → ℕ
parts_table n cs ps x out = pairs_refusal n cs ps x or_else refuse (ltb (length out) (length (needed cs ps x))) 16

-- ---- the call

-- words past the answers are untouched
unfoldable pub written : List ℕ → List ℕ → List ℕ
written found out = found ++ drop (length found) out

-- order 1, 6, 7, 15, 27, 28, 29, 16
unfoldable pub parts_refusal : List ℕ → List ℕ → ℕ → List ℕ → Areas → ℕ
parts_refusal cs ps x out a = first_refusal Paired a or_else parts_table (count a) cs ps x out

-- the value is how many records x needs
unfoldable pub parts : List ℕ → List ℕ → ℕ → List ℕ → Areas → Outcome
parts cs ps x out a = record {
  answer = answer (parts_refusal cs ps x out a) (length (needed cs ps x));
  buffer = unless_refused (parts_refusal cs ps x out a) (written (needed cs ps x) out) out;
  areas = a;
}

-- ---- what the answer's list is

-- y is an entry
unfoldable pub member : ℕ → List ℕ → Bool
member y [] = false
member y (z ∷ l) = eqb z y || member y l

-- each entry is below every later one
unfoldable pub Strict : List ℕ → Type 0
Strict [] = Unit
Strict (z ∷ l) = ((y : ℕ) → member y l ≡ true → z < y) × Strict l

-- the members of l are what chains from x reach
pub record MembersNeeded (cs ps : List ℕ) (x : ℕ) (l : List ℕ) : Type 0 where
  pub chained : (y : ℕ) → member y l ≡ true → Needs cs ps x y
  pub listed : (y : ℕ) → Needs cs ps x y → member y l ≡ true

-- they are those of the answer, without x itself; it ascends strictly, and no other such list does
pub record Reached (cs ps : List ℕ) (x : ℕ) : Type 0 where
  pub members : MembersNeeded cs ps x (needed cs ps x)
  pub own : member x (needed cs ps x) ≡ false
  pub ascends : Strict (needed cs ps x)
  pub only : (l : List ℕ) → Strict l → MembersNeeded cs ps x l → l ≡ needed cs ps x

-- wherever the lists are not refused
unfoldable pub AnswersAreReached : Type 0
AnswersAreReached = (n : ℕ) (cs ps : List ℕ) (x : ℕ) → pairs_refusal n cs ps x ≡ 0 → Reached cs ps x

-- ---- what 7, 15, 27, 28 and 29 leave, for proofs

-- a composite is at most every later one
abbrev pub InOrder : List ℕ → Type 0
InOrder cs = (i j : ℕ) → i ≤ j → j < length cs → get_or cs i 0 ≤ get_or cs j 0

-- one length, at most 1,024 pairs, components above 0 and below their composites, and composites in order
pub record Fit (cs ps : List ℕ) : Type 0 where
  pub same : length cs ≡ length ps
  pub few : length cs ≤ 1024
  pub some : (i : ℕ) → i < length cs → 0 < get_or ps i 0
  pub below : (i : ℕ) → i < length cs → get_or ps i 0 < get_or cs i 0
  pub order : InOrder cs
