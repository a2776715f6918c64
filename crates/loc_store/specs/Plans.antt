-- What is decided before anything is stored: the lengths of a truncation, and those of an opening's two rules.
-- Of an inner crate: proofs/SettledLaws and proofs/CallLaws tie them to the places of loc_calls.
use Rattle.std.specs.Prelude.{ℕ, ◌+◌, ◌-◌, cond, List, [], ◌∷◌, ◌++◌, leb, ltb, eqb, length, take, drop}
use Rattle.loc_leaf.specs.declared.Kind.{Kind}
use Rattle.loc_leaf.specs.Bytes.{Bytes, number_at}
use Rattle.loc_leaf.specs.Area.{store_length}
use Rattle.loc_leaf.specs.Kind.{row_width}
use Rattle.loc_leaf.specs.Cut.{cut_for}
use Rattle.loc_calls.specs.Areas.{Three, Areas}
use Rattle.loc_calls.specs.Stores.{Place, slot_length, row_length, checkpoint_length, differing, ends_at, cut_rule, ruled_count, ruled}
use Rattle.loc_store.specs.declared.Lengths.{Lengths}
use Rattle.loc_store.specs.declared.Rules.{Rules}

-- an area with a length that is stored only where it differs from the old one
unfoldable pub fitted : ℕ → ℕ → Bytes → Bytes
fitted old v xs = cond (eqb v old) xs (store_length v xs)

-- three numbers as the code has them
abbrev pub lengths_of : Three ℕ → Lengths
lengths_of t = record { slots = t.slots; rows = t.rows; checkpoints = t.checkpoints }

-- the lengths of areas with the first n records, where the rows are these
unfoldable pub lengths_for : Kind → ℕ → Bytes → Lengths
lengths_for k n rows = lengths_of (ends_at k n rows)

-- a truncation's places, from the old lengths to these: checkpoints, rows, slots
unfoldable pub length_places : Lengths → Lengths → List Place
length_places old t =
    differing checkpoint_length old.checkpoints t.checkpoints
    ∷ differing row_length old.rows t.rows
    ∷ differing slot_length old.slots t.slots
    ∷ []

-- an opening's places: those of the checkpoint rule, then, from what that leaves, those of the cut rule
unfoldable pub rules_places : Lengths → Rules → List Place
rules_places old p = length_places old p.checkpoint ++ length_places p.checkpoint p.cut

unfoldable pub rules_for : Kind → Areas → Rules
rules_for k a =
    record { checkpoint = lengths_for k (ruled_count k a) a.rows; cut = lengths_for k (cut_rule k (ruled k a)) (ruled k a).rows }

-- the number of the row that ends at a place, 0 where the rows begin there
unfoldable pub number_before : Kind → Bytes → ℕ → ℕ
number_before k rows end = cond (ltb 16 end) (number_at 8 (end - row_width k) rows) 0

-- the count that the cut rule keeps of n records whose rows end at a place
unfoldable pub cut_past : Kind → Bytes → Bytes → ℕ → ℕ → ℕ
cut_past k slots rows n end =
    cond (leb (end + row_width k) (length rows)) (cut_for k slots n (number_before k rows end) (take (row_width k) (drop end rows))) n
