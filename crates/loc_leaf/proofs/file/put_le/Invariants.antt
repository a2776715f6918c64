-- `file::put_le` meets its contract.
-- What is left to store, on what is stored so far, is the whole.
use mathlib.Core.Path.{◌≡◌}
use Prim.Native.Nat.{◌+◌, ◌-◌}
use Rattle.loc_leaf.specs.Bytes.{bytes, store}
use Rattle.loc_leaf.proofs.file.put_le.Given as goal

abbrev pub invariant-loop-to : goal.invariant-loop-to
invariant-loop-to l = store l.at (bytes l.n l.v) l.initial.s ≡ store l.to (bytes (l.at + l.n - l.to) l.rest) l.s
