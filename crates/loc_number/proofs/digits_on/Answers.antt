-- `loc_number::digits_on` meets its contract.
use native.Mathlib.Omega.{arith}
use Rattle.std.proofs.lemmas.Bool.Decides.{nat_tests}
use Rattle.loc_number.proofs.NumberLaws.{on_byte}
use Rattle.loc_number.proofs.digits_on.Goals as goal

pub loop-i-preserved : goal.loop-i-preserved
loop-i-preserved c = grind (arith, nat_tests, on_byte)
