-- `loc_number::digits_on` meets its contract.
use mathlib.Core.Path.{◌≡◌}
use lib.ListN.{drop}
use Rattle.loc_number.specs.Decimal.{digits_on}
use Rattle.loc_number.proofs.digits_on.Given as goal

abbrev pub invariant-loop-i : goal.invariant-loop-i
invariant-loop-i l = digits_on l.most l.end l.v l.at (drop l.at l.s) ≡ digits_on l.most l.end l.w l.i (drop l.i l.s)
