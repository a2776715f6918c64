-- `loc_print::listing::put_windows` meets its contract.
-- After the last window `done` may be past the count.
use Prim.Native.Nat.{◌+◌, ◌-◌, ◌*◌, ◌≤◌, min}
use mathlib.Core.Path.{◌≡◌}
use lib.ListN.{length}
use Rattle.loc_calls.specs.Lent.{seen}
use Rattle.loc_listing.specs.Listing.{lines_after}
use Rattle.loc_listing.specs.Text.{Put}
use Rattle.loc_print.proofs.WindowLaws.{Left}
use Rattle.loc_print.proofs.listing.put_windows.Given as goal

abbrev pub invariant-loop-done : goal.invariant-loop-done
invariant-loop-done l =
    Put l.initial.out l.initial.at (lines_after (seen l.a) 0 (min l.done l.count)) l.out l.at
    × Left (seen l.a) (min l.done l.count)
    × (l.at ≤ l.initial.at + 126 * min l.done l.count)
    × (length l.out ≡ length l.initial.out)

abbrev pub decreases-loop-done : goal.decreases-loop-done
decreases-loop-done l = l.count - l.done
