-- A listing read back (document 02, Item 1): the line of names, then at most 1,024 lines of six numbers, each ended by a line feed.
-- 18: no line of names, a line not of the form, or one too many; 19 and 20: a line's numbers. In a line 18, 19, 20; lines in order.
use Rattle.std.specs.Prelude.{ℕ, zero, suc, ◌+◌, ◌-◌, ◌*◌, ◌^◌, cond, not, List, [], ◌∷◌, ◌++◌, leb, eqb, length, Option, Some, None}
use Rattle.loc_leaf.specs.Answers.{refuse, ◌or_else◌}
use Rattle.loc_calls.specs.Table.{Batch, batch}
use Rattle.loc_calls.specs.Calls.{unless_refused}
use Rattle.loc_number.specs.Decimal.{number_at}
use Rattle.loc_listing.specs.Text.{names, begins}
use Rattle.loc_parse.specs.declared.Fields.{Fields}

-- ---- a line

-- its six numbers, and the place after them
abbrev pub Line : Type 0
Line = Option (Fields × ℕ)

-- a number, and what follows it
infixr 20 ◌then◌
unfoldable pub ◌then◌ : Option (ℕ × ℕ) → (ℕ → ℕ → Line) → Line
None then f = None
Some (v, next) then f = f v next

-- the span count has 32 bits, all others 64; the last is ended by a line feed, the others by one space
unfoldable pub line_at : List ℕ → ℕ → Line
line_at xs at =
    number_at (2 ^ 64 - 1) 32 xs at then λ number p₁.
    number_at (2 ^ 64 - 1) 32 xs p₁ then λ start p₂.
    number_at (2 ^ 64 - 1) 32 xs p₂ then λ len p₃.
    number_at (2 ^ 64 - 1) 32 xs p₃ then λ span_start p₄.
    number_at (2 ^ 64 - 1) 32 xs p₄ then λ span_len p₅.
    number_at (2 ^ 32 - 1) 10 xs p₅ then λ spans p₆.
    Some (record { number = number; start = start; len = len; span_start = span_start; span_len = span_len; spans = spans }, p₆)

-- 19: not the number wanted; 20: a span length that is not 8 × span count
unfoldable pub fields_refusal : ℕ → Fields → ℕ
fields_refusal id f = refuse (not (eqb f.number id)) 19 or_else refuse (not (eqb f.span_len (8 * f.spans))) 20

-- ---- lines

-- a refusal or 0, and the batch of the lines before
pub record Parsed : Type 0 where
  pub number : ℕ
  pub batch : Batch

abbrev pub parsed_as : ℕ → Batch → Parsed
parsed_as n b = record { number = n; batch = b }

-- a batch with one record more
unfoldable pub added : Batch → Fields → Batch
added b f = batch (b.starts ++ (f.start ∷ [])) (b.lens ++ (f.len ∷ [])) (b.span_starts ++ (f.span_start ∷ [])) (b.span_counts ++ (f.spans ∷ []))

unfoldable pub if_whole : Line → (Fields → ℕ → Parsed) → Parsed → Parsed
if_whole (Some (f, next)) yes' no' = yes' f next
if_whole None yes' no' = no'

-- from a place on: at most m lines more, of records numbered from id on, after those of the batch b
unfoldable pub lines_from : List ℕ → ℕ → ℕ → ℕ → Batch → Parsed
lines_from xs zero id at b = cond (leb (length xs) at) (parsed_as 0 b) (parsed_as 18 b)
lines_from xs (suc m) id at b =
    cond (leb (length xs) at) (parsed_as 0 b)
    (if_whole (line_at xs at)
    (λ f next. unless_refused (fields_refusal id f) (lines_from xs m (id + 1) next (added b f)) (parsed_as (fields_refusal id f) b))
    (parsed_as 18 b))

-- ---- a text

abbrev pub empty : Batch
empty = batch [] [] [] []

-- a text for an index of n records
unfoldable pub parsed : ℕ → List ℕ → Parsed
parsed n xs = cond (begins names xs) (lines_from xs 1024 (n + 1) 53 empty) (parsed_as 18 empty)
