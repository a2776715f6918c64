-- `loc_load::listing::put_load` meets its contract.
use Prim.Native.Nat.{◌+◌, ◌*◌, ◌≤◌}
use mathlib.Core.Path.{◌≡◌}
use lib.ListN.{length}
use Rattle.loc_load.proofs.ListingLaws.{Left}
use Rattle.loc_load.proofs.listing.put_load.Given as goal

abbrev pub invariant-loop-i : goal.invariant-loop-i
invariant-loop-i l =
    Left l.fn.seed l.fn.n l.initial.out l.initial.at l.out l.at l.x l.body l.span l.i
    × (l.at ≤ l.initial.at + 126 * l.i)
    × (l.body ≤ 16 + 2400 * l.i)
    × (l.span ≤ 16 + 2400 * l.i)
    × (length l.out ≡ length l.initial.out)
