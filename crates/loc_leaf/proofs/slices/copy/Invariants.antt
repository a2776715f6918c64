-- `loc_leaf::slices::copy` meets its contract.
use Rattle.std.proofs.Common.{◌≡◌, length}
use lib.ListN.{take, drop}
use Rattle.loc_leaf.proofs.slices.copy.Given as goal

abbrev pub invariant-loop-i : goal.invariant-loop-i
invariant-loop-i g l = (take l.i l.out ≡ take l.i l.src) × (drop l.i l.out ≡ drop l.i l.initial.out) × (length l.out ≡ length l.initial.out)
