-- The loop's reader lends the same rows, and what is left from its place on decides.
-- A turn comes nearer to the end of the rows, or leaves the loop.
use Prim.Native.Nat.{◌-◌, ◌≤◌}
use mathlib.Core.Path.{◌≡◌}
use lib.ListN.{length}
use Rattle.loc_leaf.specs.Rows.{ascending}
use Rattle.loc_rows.specs.Reader.{rows_from}
use Rattle.loc_rows.proofs.RowReader.ascend.Given as goal

abbrev pub invariant-loop-row : goal.invariant-loop-row
invariant-loop-row l = record {
  lent : l.self.rows ≡ l.initial.self.rows;
  wide : 12 ≤ l.self.width;
  decides :
      ascending 0 (rows_from l.initial.self.width l.initial.self.rows.now l.initial.self.at)
      ≡ ascending l.last (rows_from l.self.width l.self.rows.now l.self.at);
}

abbrev pub decreases-loop-row : goal.decreases-loop-row
decreases-loop-row l = length l.self.rows.now - l.self.at
