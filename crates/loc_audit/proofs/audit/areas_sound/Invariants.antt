-- The loop's reader lends the published rows, the row is the one at its place, and the records so far are passed.
use mathlib.Core.Path.{◌≡◌}
use lib.ListN.{take}
use Rattle.loc_leaf.specs.Area.{counted}
use Rattle.loc_leaf.specs.Kind.{row_width}
use Rattle.loc_calls.specs.Lent.{seen}
use Rattle.loc_rows.specs.Reader.{row_at}
use Rattle.loc_audit.proofs.PassLaws.{Passed}
use Rattle.loc_audit.proofs.audit.areas_sound.Given as goal

abbrev pub invariant-loop-n : goal.invariant-loop-n
invariant-loop-n l = record {
  lent : l.r.rows.now ≡ take (counted l.a.rows.now) l.a.rows.now;
  width : l.r.width ≡ row_width l.kind;
  found : l.row ≡ row_at (row_width l.kind) l.r.rows.now l.r.at;
  passed : Passed l.kind (seen l.a) l.r.rows.now l.n l.r.at l.ends;
}
