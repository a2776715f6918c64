-- What one pair gives of 27, 28, 29, and the lesser of two such numbers, of which 0 is none.
-- The least over all pairs is `first_fault`, as each number is tested over all pairs before the next.
use Rattle.std.specs.Prelude.{ℕ, zero, suc, min, not, leb}
use Rattle.loc_leaf.specs.Answers.{refuse, ◌or_else◌}
use Rattle.loc_calls.specs.Parts.{strange, comes_before}

-- of the pair (c, p), which stands after (d, q), in an index of n records
unfoldable pub pair_fault : ℕ → ℕ → ℕ → ℕ → ℕ → ℕ
pair_fault n d q c p = refuse (strange n c p) 27 or_else refuse (leb c p) 28 or_else refuse (not (comes_before d q c p)) 29

unfoldable pub least_fault : ℕ → ℕ → ℕ
least_fault a zero = a
least_fault zero (suc b) = suc b
least_fault (suc a) (suc b) = min (suc a) (suc b)
