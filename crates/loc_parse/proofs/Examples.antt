-- Texts computed: document 01's lines, and one text for each way to be turned away.
-- The bytes are those of the digits 48 to 57, the space 32 and the line feed 10.
use Prim.Native.Nat.{ℕ}
use mathlib.Core.Path.{◌≡◌, refl}
use mathlib.Core.List.{List, [], ◌∷◌, ◌++◌}
use Rattle.loc_calls.specs.Table.{batch}
use Rattle.loc_calls.specs.Calls.{unless_refused}
use Rattle.loc_number.specs.Decimal.{goes_on, digits_on, starts_at, number_at}
use Rattle.loc_listing.specs.Text.{names, begins}
use Rattle.loc_parse.specs.Lines.{◌then◌, line_at, fields_refusal, parsed_as, added, if_whole, lines_from, parsed}

-- 1 16 40 16 24 3
abbrev one : List ℕ
one = 49 ∷ 32 ∷ 49 ∷ 54 ∷ 32 ∷ 52 ∷ 48 ∷ 32 ∷ 49 ∷ 54 ∷ 32 ∷ 50 ∷ 52 ∷ 32 ∷ 51 ∷ 10 ∷ []

-- 2 56 2048 40 8 1
abbrev two : List ℕ
two = 50 ∷ 32 ∷ 53 ∷ 54 ∷ 32 ∷ 50 ∷ 48 ∷ 52 ∷ 56 ∷ 32 ∷ 52 ∷ 48 ∷ 32 ∷ 56 ∷ 32 ∷ 49 ∷ 10 ∷ []

both : parsed 0 (names ++ (one ++ two)) ≡ parsed_as 0 (batch (16 ∷ 56 ∷ []) (40 ∷ 2048 ∷ []) (16 ∷ 40 ∷ []) (3 ∷ 1 ∷ []))
unfolding parsed lines_from if_whole fields_refusal line_at ◌then◌ added begins names unless_refused number_at starts_at digits_on goes_on
both = refl

abbrev number_for : ℕ → List ℕ → ℕ
number_for n xs = (parsed n xs).number

-- an empty text; no line of names; the line of names alone; the last line without its line feed; 1 16 040 16 24 3; an empty line; 1 16 40 16 24; a carriage return; a span count of 2^32, with a span length that is not 8 × it: 18 before 20; 3 16 40 16 24 3 with a space behind: 18 before 19; the first number, for an index of one record; a number left out; 2 16 40 16 25 3: 19 before 20; 1 16 40 16 25 3
numbers :
    number_for 0 []
    ∷ number_for 0 one
    ∷ number_for 7 names
    ∷ number_for 0 (names ++ (one ++ (50 ∷ 32 ∷ 53 ∷ 54 ∷ 32 ∷ 50 ∷ 48 ∷ 52 ∷ 56 ∷ 32 ∷ 52 ∷ 48 ∷ 32 ∷ 56 ∷ 32 ∷ 49 ∷ [])))
    ∷ number_for 0 (names ++ (49 ∷ 32 ∷ 49 ∷ 54 ∷ 32 ∷ 48 ∷ 52 ∷ 48 ∷ 32 ∷ 49 ∷ 54 ∷ 32 ∷ 50 ∷ 52 ∷ 32 ∷ 51 ∷ 10 ∷ []))
    ∷ number_for 0 (names ++ (10 ∷ one))
    ∷ number_for 0 (names ++ (49 ∷ 32 ∷ 49 ∷ 54 ∷ 32 ∷ 52 ∷ 48 ∷ 32 ∷ 49 ∷ 54 ∷ 32 ∷ 50 ∷ 52 ∷ 10 ∷ []))
    ∷ number_for 0 (names ++ (49 ∷ 32 ∷ 49 ∷ 54 ∷ 32 ∷ 52 ∷ 48 ∷ 32 ∷ 49 ∷ 54 ∷ 32 ∷ 50 ∷ 52 ∷ 32 ∷ 51 ∷ 13 ∷ 10 ∷ []))
    ∷ number_for 0 (names ++ (49 ∷ 32 ∷ 49 ∷ 54 ∷ 32 ∷ 52 ∷ 48 ∷ 32 ∷ 49 ∷ 54 ∷ 32 ∷ 50 ∷ 52 ∷ 32 ∷ 52 ∷ 50 ∷ 57 ∷ 52 ∷ 57 ∷ 54 ∷ 55 ∷ 50 ∷ 57 ∷ 54 ∷ 10 ∷ []))
    ∷ number_for 0 (names ++ (51 ∷ 32 ∷ 49 ∷ 54 ∷ 32 ∷ 52 ∷ 48 ∷ 32 ∷ 49 ∷ 54 ∷ 32 ∷ 50 ∷ 52 ∷ 32 ∷ 51 ∷ 32 ∷ 10 ∷ []))
    ∷ number_for 1 (names ++ one)
    ∷ number_for 0 (names ++ (one ++ (51 ∷ 32 ∷ 53 ∷ 54 ∷ 32 ∷ 50 ∷ 48 ∷ 52 ∷ 56 ∷ 32 ∷ 52 ∷ 48 ∷ 32 ∷ 56 ∷ 32 ∷ 49 ∷ 10 ∷ [])))
    ∷ number_for 0 (names ++ (50 ∷ 32 ∷ 49 ∷ 54 ∷ 32 ∷ 52 ∷ 48 ∷ 32 ∷ 49 ∷ 54 ∷ 32 ∷ 50 ∷ 53 ∷ 32 ∷ 51 ∷ 10 ∷ []))
    ∷ number_for 0 (names ++ (49 ∷ 32 ∷ 49 ∷ 54 ∷ 32 ∷ 52 ∷ 48 ∷ 32 ∷ 49 ∷ 54 ∷ 32 ∷ 50 ∷ 53 ∷ 32 ∷ 51 ∷ 10 ∷ []))
    ∷ []
    ≡ 18 ∷ 18 ∷ 0 ∷ 18 ∷ 18 ∷ 18 ∷ 18 ∷ 18 ∷ 18 ∷ 18 ∷ 19 ∷ 19 ∷ 19 ∷ 20 ∷ []
unfolding parsed lines_from if_whole fields_refusal line_at ◌then◌ added begins names unless_refused number_at starts_at digits_on goes_on
numbers = refl
