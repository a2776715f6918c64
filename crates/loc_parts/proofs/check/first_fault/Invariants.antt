-- `loc_parts::check::first_fault` meets its contract.
-- The invariant is `Faults`: the first fault of the pairs so far, and the last of them.
use Rattle.std.proofs.Common.{length}
use Rattle.loc_leaf.specs.Answers.{refusal_of}
use Rattle.loc_parts.proofs.FaultLaws.{Faults}
use Rattle.loc_parts.proofs.check.first_fault.Given as goal

abbrev pub invariant-loop-c : goal.invariant-loop-c
invariant-loop-c l =
    Faults l.count l.pairs.composites.now l.pairs.components.now (refusal_of l.found) l.d l.q (length l.yielded)
