-- A list copied over another.
-- Over one of its length it stands there whole.
use Prim.Native.Nat.{min}
use mathlib.Core.Path.{◌≡◌, refl}
use mathlib.Core.List.{List}
use native.Mathlib.Omega.{arith}
use lib.ListN.{length}
use Rattle.std.proofs.lemmas.List.{take_all, drop_all, append-nil}
use Rattle.loc_leaf.specs.Slices.{copied}

pub copied_whole : {A : Type 0} (xs ys : List A) → length ys ≡ length xs → copied xs ys ≡ xs
unfolding copied
copied_whole xs ys e =
    let n : min (length xs) (length ys) ≡ length xs = omega (arith, e) in
    rw (n, take_all (length xs) xs (omega arith), drop_all (length xs) ys (omega (arith, e)), append-nil) refl
