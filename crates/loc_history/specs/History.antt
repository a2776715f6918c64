-- Demand 3: one claim over whole histories of calls and tears. The index answers as the book does, and holds the book's list.
-- The premises are named one by one, each with its words.
use Rattle.std.specs.Prelude.{ℕ, ◌+◌, ◌*◌, ◌^◌, ◌≤◌, ◌<◌, ◌≡◌, Bool, true, false, List, [], ◌∷◌, ◌++◌, length, take}
use Rattle.loc_leaf.specs.declared.Kind.{Kind}
use Rattle.loc_leaf.specs.declared.Kind.TheVariants.{Paired, Single}
use Rattle.loc_leaf.specs.Bytes.{Bytes}
use Rattle.loc_leaf.specs.Answers.{answer}
use Rattle.loc_leaf.specs.Area.{counted, published}
use Rattle.loc_leaf.specs.Kind.{row_width, checkpoint_width}
use Rattle.loc_calls.specs.Areas.{Three, each, Areas, sizes}
use Rattle.loc_calls.specs.Table.{Entry, Batch, Call, opening, append, truncate, read}
use Rattle.loc_calls.specs.Stores.{write, step, staged}
use Rattle.loc_calls.specs.Calls.{unless_refused, is_opening, refusal, place_count, call, create, audit}
use Rattle.loc_history.specs.Book.{Rec, records, body_end, span_end, book_ends, book_refusal, book_next, Reply, book_reply, append_torn, truncate_torn, book_torn}

-- a call finishes, or is torn between two stores, at its place s;
-- an append may also be torn inside its byte stores: there, everything past the three old lengths may hold anything.
-- One premise stands in this type and in `run`: "stores arrive in document 01's order, each length whole". What a tear leaves
-- is then the first s places; whoever keeps the areas has to see to it
pub data Event : Type 0 where
  finished : Call → Event
  torn : ℕ → Call → Event
  torn_bytes : Batch → Three Bytes → Event

-- ---- the index

-- the areas after an event; a refused append stores no bytes that a tear could leave
unfoldable pub index_after : Kind → Areas → Event → Areas
index_after k a (finished c) = (call k (place_count c) c a).areas
index_after k a (torn s c) = (call k s c a).areas
index_after k a (torn_bytes b junk) = unless_refused (refusal k (append b) a) (step (write junk) a) a

-- the reply of an event, if it is a finished call
unfoldable pub index_gives : Kind → Areas → Event → List Reply
index_gives k a (finished c) =
    record { answer = (call k (place_count c) c a).answer; buffer = (call k (place_count c) c a).buffer } ∷ []
index_gives k a (torn s c) = []
index_gives k a (torn_bytes b junk) = []

-- all replies, each event on the areas as the one before left them; and the areas at the end
unfoldable pub index_replies : Kind → Areas → List Event → List Reply
index_replies k a [] = []
index_replies k a (e ∷ es) = index_gives k a e ++ index_replies k (index_after k a e) es

unfoldable pub index_at_end : Kind → Areas → List Event → Areas
index_at_end k a [] = a
index_at_end k a (e ∷ es) = index_at_end k (index_after k a e) es

-- ---- the book

-- a refusal changes nothing, torn or not
unfoldable pub book_after : Kind → Three ℕ → List Rec → Event → List Rec
book_after k size L (finished c) = unless_refused (book_refusal k size L c) (book_next k L c) L
book_after k size L (torn s c) = unless_refused (book_refusal k size L c) (book_torn k s L c) L
book_after k size L (torn_bytes b junk) = L

unfoldable pub book_gives : Kind → Three ℕ → List Rec → Event → List Reply
book_gives k size L (finished c) = book_reply k size L c ∷ []
book_gives k size L (torn s c) = []
book_gives k size L (torn_bytes b junk) = []

unfoldable pub book_replies : Kind → Three ℕ → List Rec → List Event → List Reply
book_replies k size L [] = []
book_replies k size L (e ∷ es) = book_gives k size L e ++ book_replies k size (book_after k size L e) es

unfoldable pub book_at_end : Kind → Three ℕ → List Rec → List Event → List Rec
book_at_end k size L [] = L
book_at_end k size L (e ∷ es) = book_at_end k size (book_after k size L e) es

-- ---- the premises

-- "ends below 2^64": both streams of the list with a batch that is not refused (the one, where single)
unfoldable pub EndsBelow : Kind → List Rec → Type 0
EndsBelow Paired N = (body_end N < 2 ^ 64) × (span_end N < 2 ^ 64)
EndsBelow Single N = body_end N < 2 ^ 64

-- document 01's lists: "the span counts 32 bits wide" (paired)
unfoldable pub Narrow : Kind → List ℕ → Type 0
Narrow Paired [] = Unit
Narrow Paired (c ∷ cs) = (c < 2 ^ 32) × Narrow Paired cs
Narrow Single cs = Unit

unfoldable pub LawfulCall : Kind → Three ℕ → List Rec → Call → Type 0
LawfulCall k size L opening = Unit
LawfulCall k size L (append b) = Narrow k b.span_counts × (book_refusal k size L (append b) ≡ 0 → EndsBelow k (L ++ records k b))
LawfulCall k size L (truncate w) = Unit
LawfulCall k size L (read ids out) = Unit

-- "openings after each tear until one finishes": while one is awaited, no other call
unfoldable pub Awaited : Bool → Call → Type 0
Awaited waiting c = waiting ≡ true → is_opening c ≡ true

-- a tear means s below the number of places
unfoldable pub BeforeEnd : ℕ → Call → Type 0
BeforeEnd s c = s < place_count c

unfoldable pub LawfulEvent : Kind → Three ℕ → Bool → List Rec → Event → Type 0
LawfulEvent k size waiting L (finished c) = Awaited waiting c × LawfulCall k size L c
LawfulEvent k size waiting L (torn s c) = Awaited waiting c × LawfulCall k size L c × BeforeEnd s c
LawfulEvent k size waiting L (torn_bytes b junk) = Awaited waiting (append b) × LawfulCall k size L (append b)

unfoldable pub is_tear : Event → Bool
is_tear (finished c) = false
is_tear (torn s c) = true
is_tear (torn_bytes b junk) = true

-- an opening is awaited from a tear until one finishes
unfoldable pub awaits : Bool → List Event → Bool
awaits waiting [] = waiting
awaits waiting (e ∷ es) = awaits (is_tear e) es

-- each event is lawful on the list that the book then holds
unfoldable pub Lawful : Kind → Three ℕ → Bool → List Rec → List Event → Type 0
Lawful k size waiting L [] = Unit
Lawful k size waiting L (e ∷ es) = LawfulEvent k size waiting L e × Lawful k size (is_tear e) (book_after k size L e) es

-- "areas of fixed size of 16 bytes or more"
unfoldable pub Sized : Bytes → Type 0
Sized xs = 16 ≤ length xs

pub record AllSized (a : Areas) : Type 0 where
  pub slots : Sized a.slots
  pub rows : Sized a.rows
  pub checkpoints : Sized a.checkpoints

-- ---- demand 3

-- for both kinds, any content of the areas, and every lawful list of events after a creation: the finished calls' numbers,
-- values and whole answer buffers are the book's. So an opening reports the length kept
unfoldable pub Demand3 : Type 0
Demand3 =
    (k : Kind) (a : Areas) → AllSized a → (es : List Event) → Lawful k (sizes a) false [] es
    → index_replies k (create a).areas es ≡ book_replies k (sizes a) [] es

-- 1 to 6 and 17 never come
unfoldable pub Possible : ℕ → Type 0
Possible n = (1 ≤ n → n ≤ 6 → ⊥) × (n ≡ 17 → ⊥)

unfoldable pub AllPossible : List Reply → Type 0
AllPossible [] = Unit
AllPossible (r ∷ rs) = Possible r.answer.number × AllPossible rs

-- for every lawful history, every finished reply
unfoldable pub NeverCome : Type 0
NeverCome =
    (k : Kind) (a : Areas) → AllSized a → (es : List Event) → Lawful k (sizes a) false [] es
    → AllPossible (index_replies k (create a).areas es)

-- the records of a list with the places where they start
unfoldable pub placed : ℕ → ℕ → List Rec → List Entry
placed body span [] = []
placed body span (r ∷ L) =
    record { start = body; len = r.len; span_start = span; spans = r.spans } ∷ placed (body + r.len) (span + 8 * r.spans) L

-- the areas publish what one append of the whole list stages, and nothing else
pub record Stores (k : Kind) (a : Areas) (L : List Rec) : Type 0 where
  pub ends : each counted a ≡ book_ends k L
  pub pieces : record { slots = published 2 a.slots; rows = published (row_width k) a.rows; checkpoints = published (checkpoint_width k) a.checkpoints } ≡ staged k 0 (placed 16 16 L)

-- the areas hold the book's list and nothing else wherever no opening is awaited
unfoldable pub Demand3List : Type 0
Demand3List =
    (k : Kind) (a : Areas) → AllSized a → (es : List Event) → Lawful k (sizes a) false [] es → awaits false es ≡ false
    → Stores k (index_at_end k (create a).areas es) (book_at_end k (sizes a) [] es)

-- and an audit finds them sound
unfoldable pub AuditsTo1 : Type 0
AuditsTo1 =
    (k : Kind) (a : Areas) → AllSized a → (es : List Event) → Lawful k (sizes a) false [] es → awaits false es ≡ false
    → (audit k (index_at_end k (create a).areas es)).answer ≡ answer 0 1

-- opening reports the length kept, whatever was torn before it, openings too
unfoldable pub OpeningReports : Type 0
OpeningReports =
    (k : Kind) (a : Areas) → AllSized a → (es : List Event) → Lawful k (sizes a) false [] es
    → (call k (place_count opening) opening (index_at_end k (create a).areas es)).answer ≡ answer 0 (length (book_at_end k (sizes a) [] es))

-- a torn append keeps every older record and a first part of the new
unfoldable pub TornAppendKeeps : Type 0
TornAppendKeeps = (k : Kind) (s : ℕ) (L B : List Rec) → (n : ℕ) × (append_torn k s L (L ++ B) ≡ L ++ take n B)

-- a torn truncation, unless refused, keeps a first part no shorter than was wanted
unfoldable pub TornTruncateKeeps : Type 0
TornTruncateKeeps = (k : Kind) (s w : ℕ) (L : List Rec) → w ≤ length L → (n : ℕ) × (w ≤ n) × (truncate_torn k s L (take w L) ≡ take n L)
