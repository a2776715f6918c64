-- `loc_total::words::pair_words` meets its contract.
-- The invariant: each lane has the sums of its records of the words so far.
use Rattle.loc_total.specs.Slots.{PairWords}
use Rattle.loc_total.proofs.words.pair_words.Given as goal

abbrev pub invariant-loop-i : goal.invariant-loop-i
invariant-loop-i l = PairWords l.bytes l.i l.x l.y l.z
