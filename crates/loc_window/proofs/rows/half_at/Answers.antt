-- `loc_window::rows::half_at` meets its contract.
use mathlib.Core.Path.{◌≡◌, ap, ◌∙◌}
use Prim.Native.Nat.{ℕ, ◌<◌}
use native.Mathlib.Omega.{arith}
use lib.ListN.{drop}
use lib.Seq.{get_or-take}
use Rattle.loc_leaf.specs.Bytes.{byte, number_at}
use Rattle.loc_leaf.proofs.NumberLaws.{four_are}
use Rattle.loc_window.proofs.rows.half_at.Goals as goal

pub returns : goal.returns
unfolding number_at
returns c =
    let xs = drop c.args.at c.args.s.now in
    let same : (i : ℕ) → i < 4 → byte i c.array_at.result ≡ byte i xs = λ i h. ap (byte i) c.array_at.ensures ∙ get_or-take 4 xs i 0 h in
    four_are xs _ _ _ _ _ (same 0 (omega arith)) (same 1 (omega arith)) (same 2 (omega arith)) (same 3 (omega arith)) c.from_le_bytes.ensures
