-- `loc_leaf::slices::copy` meets its contract.
use Prim.Native.Nat.{min}
use mathlib.Core.Path.{◌≡◌, sym}
use native.Mathlib.Omega.{arith}
use lib.ListN.{length}
use Rattle.std.proofs.lemmas.List.{take-append-drop}
use Rattle.loc_leaf.specs.Slices.{copied}
use Rattle.loc_leaf.proofs.slices.copy.Goals as goal

pub returns : goal.returns
unfolding copied
returns g c =
    let n : c.loop-i.i ≡ min (length c.args.src.now) (length c.args.out.now) = omega (arith, c.min-i-end.ensures) in
    rw (← n, ← c.loop-i.invariant.0, ← c.loop-i.invariant.1) (sym (take-append-drop c.loop-i.i c.loop-i.out))
