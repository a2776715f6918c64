-- `loc_listing::line_text` meets its contract.
use Prim.Native.Nat.{◌*◌, ◌≤◌}
use mathlib.Core.Path.{◌≡◌}
use lib.ListN.{length, take}
use Rattle.loc_listing.specs.Text.{Put}
use Rattle.loc_listing.proofs.TextLaws.{spaced}
use Rattle.loc_listing.proofs.line_text.Given as goal

abbrev pub invariant-loop-n : goal.invariant-loop-n
invariant-loop-n l = Put l.initial.out 0 (spaced (take l.n-index l.n-items)) l.out l.at × (l.at ≤ 21 * l.n-index) × (length l.out ≡ length l.initial.out)
