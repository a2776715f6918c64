-- `loc_listing::put_lines` meets its contract.
use Prim.Native.Nat.{◌*◌, ◌≤◌}
use mathlib.Core.Path.{◌≡◌}
use lib.ListN.{length}
use Rattle.loc_listing.specs.Text.{record_lines, Put}
use Rattle.loc_listing.proofs.put_lines.Given as goal

abbrev pub invariant-loop-i : goal.invariant-loop-i
invariant-loop-i l = Put l.initial.out 0 (record_lines l.first l.answers l.i) l.out l.at × (l.at ≤ 126 * l.i) × (length l.out ≡ length l.initial.out)
