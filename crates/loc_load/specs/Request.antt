-- What the input asks for (document 02, Item 6): two lines, the seed and the number of records, and nothing after them.
-- 18: any other input; then 25: seed 0; then 26: more than 1,024 records. What is printed is the listing, or the line of the refusal.
use Rattle.std.specs.Prelude.{ℕ, ◌+◌, ◌-◌, ◌*◌, ◌^◌, cond, not, List, [], ◌∷◌, ◌++◌, leb, ltb, eqb, length, Option, Result, Ok, Err}
use Rattle.loc_leaf.specs.declared.refusal.Refusal.{Refusal}
use Rattle.loc_leaf.specs.Answers.{refuse, ◌or_else◌, number_of}
use Rattle.loc_calls.specs.Calls.{unless_refused}
use Rattle.loc_number.specs.Decimal.{number_at, number_refusal, value_in, place_in}
use Rattle.loc_listing.specs.Text.{decimal, refused_text}
use Rattle.loc_load.specs.declared.Request.{Request}
use Rattle.loc_load.specs.Load.{load_listing}

-- ---- the input

-- a number of 64 bits, ended by a line feed
abbrev pub line_at : List ℕ → ℕ → Option (ℕ × ℕ)
line_at xs at = number_at (2 ^ 64 - 1) 10 xs at

abbrev pub seed_line : List ℕ → Option (ℕ × ℕ)
seed_line xs = line_at xs 0

abbrev pub records_line : List ℕ → Option (ℕ × ℕ)
records_line xs = line_at xs (place_in (seed_line xs))

-- 18: not two such lines, or more bytes after them
unfoldable pub form_refusal : List ℕ → ℕ
form_refusal xs = number_refusal (seed_line xs) or_else number_refusal (records_line xs) or_else refuse (not (eqb (place_in (records_line xs)) (length xs))) 18

-- 25: seed 0; 26: more than 1,024 records
unfoldable pub load_refusal : ℕ → ℕ → ℕ
load_refusal seed n = refuse (eqb seed 0) 25 or_else refuse (ltb 1024 n) 26

unfoldable pub request_refusal : List ℕ → ℕ
request_refusal xs = form_refusal xs or_else load_refusal (value_in (seed_line xs)) (value_in (records_line xs))

-- the refusal alone, or 0 and what is asked for
pub record Asked : Type 0 where
  pub number : ℕ
  pub seed : ℕ
  pub records : ℕ

abbrev pub refused_by : ℕ → Asked
refused_by number = record { number = number; seed = 0; records = 0 }

abbrev pub request_of : ℕ → ℕ → ℕ → Asked
request_of number seed n = unless_refused number (record { number = 0; seed = seed; records = n }) (refused_by number)

unfoldable pub requested : List ℕ → Asked
requested xs = request_of (request_refusal xs) (value_in (seed_line xs)) (value_in (records_line xs))

-- what code returns
abbrev pub asked_of : Result Request Refusal → Asked
asked_of (Ok q) = record { number = 0; seed = q.seed; records = q.records }
asked_of (Err r) = refused_by (number_of r)

-- the two lines of two numbers: just these are not 18 (proofs/FormLaws)
unfoldable pub two_lines : ℕ → ℕ → List ℕ
two_lines seed n = decimal seed ++ (10 ∷ (decimal n ++ (10 ∷ [])))

-- ---- the answer, in a buffer of so many bytes; where it may not fit there is no text

-- a line has at most 126 bytes, the line of names has 53
unfoldable pub load_text : Asked → ℕ → List ℕ
load_text q room =
    unless_refused q.number (cond (leb (53 + 126 * q.records) room) (load_listing q.seed q.records) []) (refused_text q.number room)
