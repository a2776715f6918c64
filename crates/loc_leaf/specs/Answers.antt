-- Refusals and answers (document 01, "What each call gives"): a refusal has its number and the value 0.
-- What code returns is told from its `Result`.
use Rattle.std.specs.Prelude.{ℕ, zero, suc, Bool, cond, Result, Ok, Err}
use Rattle.loc_leaf.specs.declared.refusal.Refusal.{Refusal}
use Rattle.loc_leaf.specs.declared.refusal.Refusal.TheVariants.{AreaTooSmall, SlotsOdd, CheckpointsNotWhole, RowsNotWhole, RowsNotAscending, NotOpened, ListsDiffer, NoSpans, LengthNotPadded, TooManyStrides, BodyNotChained, SpansNotChained, PastArea, PastCount, TooManyNumbers, AnswersTooShort, RowMissing, ListingMalformed, ListingNumber, ListingSpanLen, AddressNotHeld, BodyEmpty, BodyNotAtEnd, SpansNotAtEnd, SeedZero, TooManyRecords, NotARecord, ComponentNotBelow, PairsNotAscending}

-- 0 and the value, or the number and 0
pub record Answer : Type 0 where
  pub number : ℕ
  pub value : ℕ

-- the number where the test holds
abbrev pub refuse : Bool → ℕ → ℕ
refuse b n = cond b n 0

-- the first refusal that is not 0
infixr 20 ◌or_else◌
abbrev pub ◌or_else◌ : ℕ → ℕ → ℕ
zero or_else m = m
suc n or_else m = suc n

abbrev pub accepted_with : ℕ → Answer
accepted_with v = record { number = 0; value = v }

abbrev pub refused_by : ℕ → Answer
refused_by n = record { number = n; value = 0 }

-- an accepted call gives 0 and its value
unfoldable pub answer : ℕ → ℕ → Answer
answer zero v = accepted_with v
answer (suc n) v = refused_by (suc n)

-- ---- what code returns

abbrev pub number_of : Refusal → ℕ
number_of AreaTooSmall = 1
number_of SlotsOdd = 2
number_of CheckpointsNotWhole = 3
number_of RowsNotWhole = 4
number_of RowsNotAscending = 5
number_of NotOpened = 6
number_of ListsDiffer = 7
number_of NoSpans = 8
number_of LengthNotPadded = 9
number_of TooManyStrides = 10
number_of BodyNotChained = 11
number_of SpansNotChained = 12
number_of PastArea = 13
number_of PastCount = 14
number_of TooManyNumbers = 15
number_of AnswersTooShort = 16
number_of RowMissing = 17
number_of ListingMalformed = 18
number_of ListingNumber = 19
number_of ListingSpanLen = 20
number_of AddressNotHeld = 21
number_of BodyEmpty = 22
number_of BodyNotAtEnd = 23
number_of SpansNotAtEnd = 24
number_of SeedZero = 25
number_of TooManyRecords = 26
number_of NotARecord = 27
number_of ComponentNotBelow = 28
number_of PairsNotAscending = 29

-- 0 where it is not refused
abbrev pub refusal_of : {T : Type 0} → Result T Refusal → ℕ
refusal_of (Ok x) = 0
refusal_of (Err r) = number_of r

abbrev pub answer_of : Result ℕ Refusal → Answer
answer_of (Ok v) = accepted_with v
answer_of (Err r) = refused_by (number_of r)
