-- The text of a listing, as lists of bytes (document 01, "Listing program").
-- Fields are parted by one space and each line is ended by a line feed.
use Rattle.std.specs.Prelude.{ℕ, zero, suc, ◌+◌, ◌*◌, ◌/◌, ◌%◌, ◌^◌, ◌≡◌, Bool, true, false, cond, ◌&&◌, List, [], ◌∷◌, ◌++◌, leb, ltb, eqb, length, get_or}
use Rattle.std.proofs.lemmas.List.Edits.{sets}

-- the decimal digits of n, at most k of them, with no zero in front
unfoldable pub digits : ℕ → ℕ → List ℕ
digits zero n = []
digits (suc k) n = cond (ltb n 10) ((48 + n) ∷ []) (digits k (n / 10) ++ ((48 + n % 10) ∷ []))

-- a number of 64 bits has at most 20
unfoldable pub decimal : ℕ → List ℕ
decimal n = digits 20 n

unfoldable pub line : List ℕ → List ℕ
line [] = 10 ∷ []
line (n ∷ []) = decimal n ++ (10 ∷ [])
line (n ∷ m ∷ ns) = decimal n ++ (32 ∷ line (m ∷ ns))

-- the line of names: record body_start body_len span_start span_len spans
unfoldable pub names : List ℕ
names =
    114 ∷ 101 ∷ 99 ∷ 111 ∷ 114 ∷ 100 ∷ 32
    ∷ 98 ∷ 111 ∷ 100 ∷ 121 ∷ 95 ∷ 115 ∷ 116 ∷ 97 ∷ 114 ∷ 116 ∷ 32
    ∷ 98 ∷ 111 ∷ 100 ∷ 121 ∷ 95 ∷ 108 ∷ 101 ∷ 110 ∷ 32
    ∷ 115 ∷ 112 ∷ 97 ∷ 110 ∷ 95 ∷ 115 ∷ 116 ∷ 97 ∷ 114 ∷ 116 ∷ 32
    ∷ 115 ∷ 112 ∷ 97 ∷ 110 ∷ 95 ∷ 108 ∷ 101 ∷ 110 ∷ 32
    ∷ 115 ∷ 112 ∷ 97 ∷ 110 ∷ 115 ∷ 10 ∷ []

-- the bytes ys begin with xs
unfoldable pub begins : List ℕ → List ℕ → Bool
begins [] ys = true
begins (x ∷ xs) [] = false
begins (x ∷ xs) (y ∷ ys) = eqb x y && begins xs ys

-- record number, body start and length, span start and length in bytes, span count: of the answer i of a reading that begins at record `first`
unfoldable pub record_line : ℕ → List ℕ → ℕ → List ℕ
record_line first ws i =
    line ((first + i) ∷ get_or ws (6 * i + 1) 0 ∷ get_or ws (6 * i + 2) 0 ∷ get_or ws (6 * i + 3) 0 ∷ get_or ws (6 * i + 4) 0 ∷ get_or ws (6 * i + 5) 0 ∷ [])

-- a line per record
unfoldable pub record_lines : ℕ → List ℕ → ℕ → List ℕ
record_lines first ws zero = []
record_lines first ws (suc n) = record_lines first ws n ++ record_line first ws n

-- `refused`, a space and the number
unfoldable pub refused_line : ℕ → List ℕ
refused_line n = 114 ∷ 101 ∷ 102 ∷ 117 ∷ 115 ∷ 101 ∷ 100 ∷ 32 ∷ (decimal n ++ (10 ∷ []))

-- ---- in a buffer of so many bytes; where it may not fit there is no text

-- a line has at most 126 bytes: six numbers of at most 20, each ended by one byte
unfoldable pub line_text : List ℕ → ℕ → List ℕ
line_text ns room = cond (leb 126 room) (line ns) []

unfoldable pub fits : ℕ → ℕ → ℕ → ℕ → Bool
fits first words n room = leb (126 * n) room && leb (6 * n) words && ltb (first + n) (2 ^ 64)

-- the line of names has 53 bytes
unfoldable pub names_text : ℕ → List ℕ
names_text room = cond (leb 53 room) names []

unfoldable pub window_text : ℕ → List ℕ → ℕ → ℕ → List ℕ
window_text first ws n room = cond (fits first (length ws) n room) (record_lines first ws n) []

unfoldable pub refused_text : ℕ → ℕ → List ℕ
refused_text n room = cond (leb 29 room) (refused_line n) []

-- the text stands at a place of a buffer, and next is the place after it
pub record Put (before : List ℕ) (at : ℕ) (text : List ℕ) (after : List ℕ) (next : ℕ) : Type 0 where
  pub buffer : after ≡ sets before at text
  pub place : next ≡ at + length text
