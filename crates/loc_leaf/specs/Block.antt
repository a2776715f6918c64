-- The block step (document 01, "loc_simd.rs"): a block is sixteen bytes, eight records of two bytes.
-- Its bytes are those of two words, `bytes 8 lo ++ bytes 8 hi`.
use Rattle.std.specs.Prelude.{ℕ, zero, suc, ◌+◌, ◌*◌, ◌/◌, ◌%◌, ◌^◌, cond, ◌≡◌, List, [], ◌∷◌, eqb}
use Rattle.loc_leaf.specs.declared.Kind.{Kind}
use Rattle.loc_leaf.specs.Bytes.{Bytes, byte}
use Rattle.loc_leaf.specs.Slot.{needs_row, inline}

-- the first byte of each record
unfoldable pub firsts : Bytes → Bytes
firsts [] = []
firsts (x ∷ []) = []
firsts (x ∷ y ∷ bs) = x ∷ firsts bs

-- the second byte of each record
unfoldable pub seconds : Bytes → Bytes
seconds [] = []
seconds (x ∷ []) = []
seconds (x ∷ y ∷ bs) = y ∷ seconds bs

-- the two bytes of record j's slot, counted from 0
abbrev pub slot_bytes : Bytes → ℕ → Bytes
slot_bytes bytes j = byte (2 * j) bytes ∷ byte (2 * j + 1) bytes ∷ []

-- 1 where record j needs a row: paired, where it holds a 0
abbrev pub row_bit : Kind → Bytes → ℕ → ℕ
row_bit k s j = cond (needs_row k (slot_bytes s j)) 1 0

-- bit t set where record j + t needs a row, of n records
unfoldable pub row_mask : Kind → Bytes → ℕ → ℕ → ℕ
row_mask k s j zero = 0
row_mask k s j (suc n) = row_bit k s j + 2 * row_mask k s (j + 1) n

-- g j + … + g (j + n - 1)
unfoldable pub sum_from : (ℕ → ℕ) → ℕ → ℕ → ℕ
sum_from g j zero = 0
sum_from g j (suc n) = g j + sum_from g (j + 1) n

-- what the slots of n records from record j on say, added up
abbrev pub inline_strides : Kind → Bytes → ℕ → ℕ → ℕ
inline_strides k s j n = sum_from (λ i. (inline k (slot_bytes s i)).strides) j n

abbrev pub inline_spans : Kind → Bytes → ℕ → ℕ → ℕ
inline_spans k s j n = sum_from (λ i. (inline k (slot_bytes s i)).spans) j n

-- running sums of byte × 8, on top of t
unfoldable pub running : ℕ → Bytes → List ℕ
running t [] = []
running t (x ∷ xs) = (t + 8 * x) ∷ running (t + 8 * x) xs

-- the lowest set bit of the n lowest of a mask, n where none is set
unfoldable pub lowest : ℕ → ℕ → ℕ
lowest zero m = 0
lowest (suc n) m = cond (eqb (m % 2) 1) 0 (suc (lowest n (m / 2)))

-- the word whose lanes of sixteen bits hold the numbers, lowest first
unfoldable pub lanes_of : List ℕ → ℕ
lanes_of [] = 0
lanes_of (x ∷ xs) = x + 2 ^ 16 * lanes_of xs

-- both lists of the block of the bytes bs
pub record SumsOf (bs : Bytes) (tx sp : List ℕ) : Type 0 where
  pub is_body : tx ≡ running 0 (firsts bs)
  pub is_span : sp ≡ running 0 (seconds bs)
