-- The records that a seed draws, and their listing (document 02, Item 6).
-- A draw is the state after a step.
use Rattle.std.specs.Prelude.{ℕ, zero, suc, ◌+◌, ◌*◌, ◌%◌, List, [], ◌∷◌, ◌++◌}
use Rattle.loc_calls.specs.Table.{Entry, Batch, batch_of}
use Rattle.loc_history.specs.Book.{Rec}
use Rattle.loc_history.specs.History.{placed}
use Rattle.loc_listing.specs.Text.{names}
use Rattle.loc_listing.specs.Listing.{entry_lines}
use Rattle.loc_load.specs.Xorshift.{xorshift}

-- a record of two draws: strides 1 + draw mod 300, then spans 1 + draw mod 300
unfoldable pub drawn : ℕ → ℕ → Rec
drawn a b = record { len = 8 * (1 + a % 300); spans = 1 + b % 300 }

-- the load of n records of a seed; after a record it goes on from the state of its second draw
unfoldable pub load : ℕ → ℕ → List Rec
load x zero = []
load x (suc n) = drawn (xorshift x) (xorshift (xorshift x)) ∷ load (xorshift (xorshift x)) n

-- bodies and spans stand one after the other, from 16 on
abbrev pub load_entries : ℕ → ℕ → List Entry
load_entries seed n = placed 16 16 (load seed n)

-- the load as a batch
abbrev pub load_batch : ℕ → ℕ → Batch
load_batch seed n = batch_of (load_entries seed n)

-- the load as a listing
unfoldable pub load_listing : ℕ → ℕ → List ℕ
load_listing seed n = names ++ entry_lines 0 (load_entries seed n)
