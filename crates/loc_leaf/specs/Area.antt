-- An area and its published length (document 01, "file.rs, length only").
-- Every definition is total: an area under 16 bytes publishes nothing.
use Rattle.std.specs.Prelude.{ℕ, zero, suc, ◌-◌, ◌*◌, ◌/◌, ◌%◌, ◌≤◌, min, max, ◌≡◌, List, [], ◌∷◌, length, take, drop}
use Rattle.loc_leaf.specs.declared.file.Pieces.{Pieces}
use Rattle.loc_leaf.specs.Bytes.{Bytes, bytes, number_at, store}

-- bytes 8 to 15 are the published length: below 16 it counts as 16, past the area's end as the area's length
unfoldable pub counted : Bytes → ℕ
counted xs = min (length xs) (max 16 (number_at 8 8 xs))

-- store a published length
unfoldable pub store_length : ℕ → Bytes → Bytes
store_length v xs = store 8 (bytes 8 v) xs

-- store bytes into the part of the area that begins at the published end
unfoldable pub store_past : Bytes → Bytes → Bytes
store_past bs xs = store (counted xs) bs xs

-- the first n pieces of w bytes
unfoldable pub pieces : ℕ → ℕ → Bytes → List Bytes
pieces w zero xs = []
pieces w (suc n) xs = take w xs ∷ pieces w n (drop w xs)

-- how many whole pieces of w bytes are published
unfoldable pub fill : ℕ → Bytes → ℕ
fill w xs = (counted xs - 16) / w

-- published bytes are those from 16 up to the counted length
unfoldable pub published_bytes : Bytes → Bytes
published_bytes xs = take (counted xs - 16) (drop 16 xs)

-- the same in pieces of w
unfoldable pub published : ℕ → Bytes → List Bytes
published w xs = pieces w (fill w xs) (drop 16 xs)

-- what the code finds of it: how many whole pieces there are, and how many bytes are left over
pub record InPieces (w : ℕ) (xs : Bytes) (p : Pieces) : Type 0 where
  pub end : p.end ≡ counted xs
  pub count : p.count ≡ fill w xs
  pub left : p.left ≡ (counted xs - 16) % w
  pub inside : p.end ≤ length xs
  pub room : w * p.count ≤ length xs - 16
