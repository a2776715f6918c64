-- `file::u64_at` meets its contract.
use native.Mathlib.Omega.{arith}
use lib.ListN.{drop}
use Rattle.loc_leaf.specs.Bytes.{number_at}
use Rattle.loc_leaf.proofs.NumberLaws.{eight_are}
use Rattle.loc_leaf.proofs.file.u64_at.Goals as goal

pub returns : goal.returns
unfolding number_at
returns c = eight_are (drop c.args.at c.args.s.now) _ _ _ _ _ _ _ _ _ (c.bytes_at.ensures 0 (omega arith)) (c.bytes_at.ensures 1 (omega arith)) (c.bytes_at.ensures 2 (omega arith)) (c.bytes_at.ensures 3 (omega arith)) (c.bytes_at.ensures 4 (omega arith)) (c.bytes_at.ensures 5 (omega arith)) (c.bytes_at.ensures 6 (omega arith)) (c.bytes_at.ensures 7 (omega arith)) c.from_le_bytes.ensures
