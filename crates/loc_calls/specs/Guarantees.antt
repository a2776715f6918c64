-- What holds of every call on any areas: which numbers it gives, what a refusal leaves, and what bytes 0 to 7 are to it
-- (document 01, "What each call gives"; "file.rs, length only"). Each is said of any outcome of areas, then of all calls at once.
use Rattle.std.specs.Prelude.{ℕ, ◌≤◌, ◌≡◌, List, [], ◌∷◌, take, drop}
use Rattle.loc_leaf.specs.declared.Kind.{Kind}
use Rattle.loc_calls.specs.Areas.{each, Areas, sizes}
use Rattle.loc_calls.specs.Table.{Call}
use Rattle.loc_calls.specs.Calls.{Outcome, lent, call, create, audit}
use Rattle.loc_calls.specs.SpanAt.{span_at_outcome}
use Rattle.loc_calls.specs.Parts.{parts}
use Rattle.loc_calls.specs.Withheld.{withheld}

-- ---- every call

-- open, append, truncate and read of a kind, at s places; create; audit of a kind; span_at an address; the parts of a record;
-- of a kind how many records are durable at a length of the rows
pub data AnyCall : Type 0 where
  index_call : Kind → ℕ → Call → AnyCall
  creation : AnyCall
  auditing : Kind → AnyCall
  locating : ℕ → AnyCall
  composing : List ℕ → List ℕ → ℕ → List ℕ → AnyCall
  limiting : Kind → ℕ → AnyCall

unfoldable pub outcome : AnyCall → Areas → Outcome
outcome (index_call k s c) a = call k s c a
outcome creation a = create a
outcome (auditing k) a = audit k a
outcome (locating x) a = span_at_outcome x a
outcome (composing cs ps x out) a = parts cs ps x out a
outcome (limiting k d) a = withheld k d a

-- the answer buffer as it was lent: a reading has one, as parts has, and the three words of span_at begin as 0
unfoldable pub lent_to : AnyCall → List ℕ
lent_to (index_call k s c) = lent c
lent_to creation = []
lent_to (auditing k) = []
lent_to (locating x) = 0 ∷ 0 ∷ 0 ∷ []
lent_to (composing cs ps x out) = out
lent_to (limiting k d) = []

-- ---- numbers and refusals

-- the table's largest number
abbrev pub largest : ℕ
largest = 29

-- the column "Number": a call gives 0 or a number of the table
unfoldable pub InTable : (Areas → Outcome) → Type 0
InTable f = (a : Areas) → (f a).answer.number ≤ largest

-- the columns "Returned": "number, value 0"; and "Left as it was": "everything"
pub record Refusal (o : Outcome) (a : Areas) (out : List ℕ) : Type 0 where
  pub value : o.answer.value ≡ 0
  pub buffer : o.buffer ≡ out
  pub areas : o.areas ≡ a

-- what every refusal gives of the areas and the buffer that it was lent
unfoldable pub LeavesAll : (Areas → Outcome) → List ℕ → Type 0
LeavesAll f out = (a : Areas) → ((f a).answer.number ≡ 0 → ⊥) → Refusal (f a) a out

-- ---- bytes 0 to 7

-- areas as long, that differ there or nowhere
pub record SameFrom8 (a b : Areas) : Type 0 where
  pub size : sizes a ≡ sizes b
  pub rest : each (drop 8) a ≡ each (drop 8) b

pub record SameOutcome (o p : Outcome) : Type 0 where
  pub answer : o.answer ≡ p.answer
  pub buffer : o.buffer ≡ p.buffer
  pub areas : SameFrom8 o.areas p.areas

-- "Bytes 0 to 7 are neither read": areas that differ only there get the same answers and the same stores,
unfoldable pub Unread : (Areas → Outcome) → Type 0
Unread f = (a b : Areas) → SameFrom8 a b → SameOutcome (f a) (f b)

-- "nor written": they come back as they were
unfoldable pub Unwritten : (Areas → Outcome) → Type 0
Unwritten f = (a : Areas) → each (take 8) (f a).areas ≡ each (take 8) a

-- ---- all of it

-- of a call that is lent the buffer out
pub record Guaranteed (f : Areas → Outcome) (out : List ℕ) : Type 0 where
  pub number : InTable f
  pub refusal : LeavesAll f out
  pub unread : Unread f
  pub unwritten : Unwritten f

unfoldable pub NumbersOfTable : Type 0
NumbersOfTable = (c : AnyCall) → InTable (outcome c)

unfoldable pub RefusalsLeaveAll : Type 0
RefusalsLeaveAll = (c : AnyCall) → LeavesAll (outcome c) (lent_to c)

unfoldable pub FirstBytesUnread : Type 0
FirstBytesUnread = (c : AnyCall) → Unread (outcome c)

unfoldable pub FirstBytesUnwritten : Type 0
FirstBytesUnwritten = (c : AnyCall) → Unwritten (outcome c)
