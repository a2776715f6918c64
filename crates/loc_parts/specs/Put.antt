-- What 16 leaves of a call whose other refusals are tested: the answer, and the buffer, by the list that is found.
-- A refusal leaves the buffer.
use Rattle.std.specs.Prelude.{ℕ, ◌≡◌, List, ltb, length}
use Rattle.loc_leaf.specs.Answers.{refuse, answer, Answer}
use Rattle.loc_calls.specs.Calls.{unless_refused}
use Rattle.loc_calls.specs.Parts.{written}

pub record Put (found out : List ℕ) (r : Answer) (new : List ℕ) : Type 0 where
  pub answer : r ≡ answer (refuse (ltb (length out) (length found)) 16) (length found)
  pub buffer : new ≡ unless_refused (refuse (ltb (length out) (length found)) 16) (written found out) out
