-- The pass over the pairs from the record's last one down to the first: which composites are wanted, and which pairs have a mark.
-- Then the components in order, each one time.
use Rattle.std.specs.Prelude.{ℕ, zero, suc, ◌+◌, ◌-◌, ◌≤◌, ◌<◌, ◌≡◌, ◌⊎◌, Bool, true, false, cond, List, [], ◌∷◌, leb, eqb, length, get_or}
use Rattle.loc_calls.specs.Parts.{Needs, member}

-- ---- a composite's pairs

-- how many of the first n composites are at most y
unfoldable pub composites_to : List ℕ → ℕ → ℕ → ℕ
composites_to cs y zero = 0
composites_to cs y (suc n) = composites_to cs y n + cond (leb (get_or cs n 0) y) 1 0

-- one past the last of the first n pairs that has composite y; 0 where none has it
pub record PairsEnd (cs : List ℕ) (n y r : ℕ) : Type 0 where
  pub inside : r ≤ n
  pub own : 0 < r → get_or cs (r - 1) 0 ≡ y
  pub past : (j : ℕ) → r ≤ j → j < n → get_or cs j 0 ≡ y → ⊥

-- place j has a mark
abbrev pub marked : List Bool → ℕ → Type 0
marked marks j = get_or marks j false ≡ true

-- of the first n pairs, none after place j has its composite
abbrev pub LastOwn : List ℕ → ℕ → ℕ → Type 0
LastOwn cs n j = suc j < n → get_or cs (suc j) 0 ≡ get_or cs j 0 → ⊥

-- a pair with composite y has a mark
pub record HasMark (cs : List ℕ) (y : ℕ) (marks : List Bool) : Type 0 where
  pub place : ℕ
  pub mark : marked marks place
  pub composite : get_or cs place 0 ≡ y

-- the marks of old, and one at the last of the first n pairs that has composite y, if there is one; the answer is yes only where it had its mark
pub record Marked (cs : List ℕ) (n y : ℕ) (old new : List Bool) (r : Bool) : Type 0 where
  pub own : (j : ℕ) → marked new j → marked old j ⊎ (get_or cs j 0 ≡ y)
  pub kept : (j : ℕ) → marked old j → marked new j
  pub last : (j : ℕ) → j < n → get_or cs j 0 ≡ y → LastOwn cs n j → marked new j
  pub before : r ≡ true → HasMark cs y old

-- ---- components that were met

-- p stands in a table
pub record Stands (p : ℕ) (seen : List ℕ) : Type 0 where
  pub place : ℕ
  pub is : get_or seen place 0 ≡ p

-- p is not new only where it stands in the old table; the new one has what the old one has, or p
pub record Entered (p : ℕ) (old new : List ℕ) (is_new : Bool) : Type 0 where
  pub there : is_new ≡ false → Stands p old
  pub entries : (h : ℕ) → (get_or new h 0 ≡ p) ⊎ (get_or new h 0 ≡ get_or old h 0)

-- ---- the pass

-- c is the record x, or one of the components so far
abbrev pub Wanted : ℕ → List ℕ → ℕ → Type 0
Wanted x found c = (c ≡ x) ⊎ (member c found ≡ true)

-- the pairs from place i on are passed: the components found are needed, and those of wanted composites are found;
-- a pair with a mark has a wanted composite, and of the pairs before i that have one wanted composite the last has a mark;
-- what stands in the table is found
pub record Walking (cs ps : List ℕ) (x : ℕ) (marks : List Bool) (seen found : List ℕ) (i : ℕ) : Type 0 where
  pub inside : i ≤ length cs
  pub chained : (y : ℕ) → member y found ≡ true → Needs cs ps x y
  pub closed : (j : ℕ) → i ≤ j → j < length cs → Wanted x found (get_or cs j 0) → member (get_or ps j 0) found ≡ true
  pub sound : (j : ℕ) → marked marks j → Wanted x found (get_or cs j 0)
  pub full : (j : ℕ) → j < i → Wanted x found (get_or cs j 0) → LastOwn cs i j → marked marks j
  pub met : (h : ℕ) → 0 < get_or seen h 0 → member (get_or seen h 0) found ≡ true

-- what it begins with, for so many pairs: no mark, no entry in the table, and room in each
pub record Cleared (pairs : ℕ) (marks : List Bool) (stage seen : List ℕ) : Type 0 where
  pub for_marks : pairs ≤ length marks
  pub for_components : pairs ≤ length stage
  pub for_table : 64 ≤ length seen
  pub for_list : length stage ≤ length seen
  pub unmarked : (j : ℕ) → marked marks j → ⊥
  pub empty : (h : ℕ) → get_or seen h 0 ≡ 0

-- ---- each one time

-- of a list in order, those that differ from the one before, which is z before the first
unfoldable pub distinct : ℕ → List ℕ → List ℕ
distinct z [] = []
distinct z (y ∷ l) = cond (eqb y z) (distinct z l) (y ∷ distinct y l)
