-- `loc_total::slots::last_slots` meets its contract.
-- The invariant: the sums of the records so far.
use native.Mathlib.Omega.{arith}
use Rattle.loc_total.proofs.SlotLaws.{bit_low, slots_small, slot_next}
use Rattle.loc_total.proofs.slots.last_slots.Goals as goal

pub overflow_add-t-in-loop-i-2 : goal.overflow_add-t-in-loop-i-2
overflow_add-t-in-loop-i-2 c = omega (arith, (slots_small _ _ _ _ c.loop-i.invariant (omega (arith, c.requires.1))).2, c.from.ensures, bit_low c.needs_row.result)

pub loop-i-preserved : goal.loop-i-preserved
loop-i-preserved c = slot_next _ _ _ _ c.loop-i.invariant _ _ _ (c.type_inv.bytes _).fits (c.type_inv.bytes _).fits c.inline_value-v.ensures c.needs_row.ensures c.from.ensures
