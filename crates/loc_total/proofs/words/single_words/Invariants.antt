-- `loc_total::words::single_words` meets its contract.
-- The invariant: each lane has the sums of its records of the words so far.
use Rattle.loc_total.specs.Slots.{SingleWords}
use Rattle.loc_total.proofs.words.single_words.Given as goal

abbrev pub invariant-loop-i : goal.invariant-loop-i
invariant-loop-i l = SingleWords l.bytes l.i l.x l.z
