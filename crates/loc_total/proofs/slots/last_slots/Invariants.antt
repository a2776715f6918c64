-- `loc_total::slots::last_slots` meets its contract.
-- The invariant: the sums of the records so far.
use Rattle.loc_total.specs.Slots.{SlotTotal}
use Rattle.loc_total.proofs.slots.last_slots.Given as goal

abbrev pub invariant-loop-i : goal.invariant-loop-i
invariant-loop-i l = SlotTotal l.kind l.bytes l.i l.t
