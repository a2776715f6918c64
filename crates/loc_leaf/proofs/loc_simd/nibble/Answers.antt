-- `nibble` gives which of a word's four records need a row.
use Rattle.loc_leaf.proofs.loc_simd.nibble.Goals as goal

pub returns-in-Paired : goal.returns-in-Paired
returns-in-Paired c = rw c.in-Paired.is c.zero_nibble.ensures

pub returns-in-Single : goal.returns-in-Single
returns-in-Single c = rw c.in-Single.is c.empty_nibble.ensures
