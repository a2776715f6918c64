-- `loc_load::listing::load_text` meets its contract.
use mathlib.Core.Path.{refl}
use native.Mathlib.Omega.{arith}
use Rattle.loc_leaf.proofs.Refusals.{number_some}
use Rattle.loc_load.proofs.RequestLaws.{asked_few}
use Rattle.loc_load.proofs.ListingLaws.{answer_refused, answer_none, answer_put}
use Rattle.loc_load.proofs.listing.load_text.Goals as goal

pub returns-in-Err : goal.returns-in-Err
returns-in-Err c = (answer_refused _ _ c.in-Err.ensures _ _ _ (number_some _) (rw c.from.ensures at c.refused_text.ensures.0), c.refused_text.ensures.1)

pub overflow_mul-n : goal.overflow_mul-n
overflow_mul-n c = omega (arith, asked_few _ _ c.in-Ok.ensures refl)

pub overflow_add-n : goal.overflow_add-n
overflow_add-n c = omega (arith, asked_few _ _ c.in-Ok.ensures refl)

pub returns-then-out-n : goal.returns-then-out-n
returns-then-out-n c = (answer_none _ _ c.in-Ok.ensures _ refl (omega arith), omega arith)

pub put_load-requires : goal.put_load-requires
put_load-requires c = (asked_few _ _ c.in-Ok.ensures refl, omega arith)

pub returns : goal.returns
returns c = (answer_put _ _ c.in-Ok.ensures _ _ _ refl (omega arith) c.put_load.ensures.0, c.put_load.ensures.1)
