-- `loc_total::rows::with_rows` meets its contract.
-- The invariant: the sums by the rows from the place on.
use Rattle.loc_total.specs.Total.{PartSums}
use Rattle.loc_total.proofs.rows.with_rows.Given as goal

abbrev pub invariant-loop-row : goal.invariant-loop-row
invariant-loop-row l = PartSums l.p l.row l.t
