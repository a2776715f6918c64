-- What code promises at its return, by the outcome that a definition gives its call.
-- Number, value, and every byte or word of what the call was lent.
use Rattle.std.specs.Prelude.{ℕ, ◌≡◌, List}
use Rattle.loc_leaf.specs.Answers.{Answer}
use Rattle.loc_calls.specs.Areas.{Areas}
use Rattle.loc_calls.specs.Calls.{Outcome}

-- a call that stores: its answer, and the areas
abbrev pub Stored : Outcome → Answer → Areas → Type 0
Stored o r a = (r ≡ o.answer) × (a ≡ o.areas)

-- a reading: its answer, and the answer buffer
abbrev pub Read : Outcome → Answer → List ℕ → Type 0
Read o r out = (r ≡ o.answer) × (out ≡ o.buffer)
