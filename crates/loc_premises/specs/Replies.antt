-- How the histories of this crate say what a call replies, and what index and book give on one.
-- Areas have any content before a creation.
use Rattle.std.specs.Prelude.{ℕ, zero, suc, ◌+◌, ◌≡◌, List, [], ◌∷◌, replicate}
use Rattle.loc_leaf.specs.declared.Kind.{Kind}
use Rattle.loc_calls.specs.Areas.{Areas, sizes}
use Rattle.loc_calls.specs.Calls.{create}
use Rattle.loc_history.specs.Book.{Reply}
use Rattle.loc_history.specs.History.{Event, index_replies, book_replies}

-- a reply with no answer words, one with a buffer that was not touched, and a reading's
abbrev pub gives : ℕ → ℕ → Reply
gives n v = record { answer = record { number = n; value = v }; buffer = [] }

abbrev pub refuses : ℕ → List ℕ → Reply
refuses n out = record { answer = record { number = n; value = 0 }; buffer = out }

abbrev pub reads : ℕ → List ℕ → Reply
reads v out = record { answer = record { number = 0; value = v }; buffer = out }

-- room for 24 records, or for 1,042
abbrev pub small : Areas
small = record { slots = replicate 64 0; rows = replicate 64 255; checkpoints = replicate 64 7 }

abbrev pub wide : Areas
wide = record { slots = replicate 2100 0; rows = replicate 64 255; checkpoints = replicate 64 7 }

-- n numbers from x on, d apart
abbrev pub from : ℕ → ℕ → ℕ → List ℕ
from d x zero = []
from d x (suc n) = x ∷ from d (x + d) n

-- the index and the book both give these replies
abbrev pub Both : Kind → Areas → List Event → List Reply → Type 0
Both k a es rs = (index_replies k (create a).areas es ≡ rs) × (book_replies k (sizes a) [] es ≡ rs)

-- the index gives some replies and the book others
abbrev pub Differ : Kind → Areas → List Event → List Reply → List Reply → Type 0
Differ k a es is bs = (index_replies k (create a).areas es ≡ is) × (book_replies k (sizes a) [] es ≡ bs) × (is ≡ bs → ⊥)
