-- The book (document 01, "Book"): a list of lengths and span counts, what each call answers by it, and what a tear keeps of it.
-- It never sees the areas.
use Rattle.std.specs.Prelude.{ℕ, zero, suc, ◌+◌, ◌-◌, ◌*◌, ◌/◌, Bool, false, cond, ◌&&◌, List, [], ◌∷◌, ◌++◌, map, leb, length, take, get_or, replicate}
use Rattle.loc_leaf.specs.declared.Kind.{Kind}
use Rattle.loc_leaf.specs.declared.Kind.TheVariants.{Paired, Single}
use Rattle.loc_leaf.specs.Answers.{answer, Answer}
use Rattle.loc_leaf.specs.Kind.{row_width, checkpoint_width}
use Rattle.loc_leaf.specs.Slot.{stored_as_zero}
use Rattle.loc_calls.specs.SpanAt.{Crossing, span_among}
use Rattle.loc_calls.specs.Areas.{Three}
use Rattle.loc_calls.specs.Table.{Entry, Batch, Call, opening, append, truncate, read, entries, word_width, ListEnd, table}
use Rattle.loc_calls.specs.Reading.{within}
use Rattle.loc_calls.specs.Calls.{unless_refused, value, lent, buffer}
use Rattle.loc_calls.specs.Parts.{needed, parts_table, written}
use Rattle.loc_calls.specs.Withheld.{limited}

-- it holds the records' lengths and, where paired, span counts (0 where single)
pub record Rec : Type 0 where
  pub len : ℕ
  pub spans : ℕ

unfoldable pub rec_of : Entry → Rec
rec_of e = record { len = e.len; spans = e.spans }

unfoldable pub records : Kind → Batch → List Rec
records k b = map rec_of (entries k b)

-- ---- counts and ends

unfoldable pub len_sum : List Rec → ℕ
len_sum [] = 0
len_sum (r ∷ L) = r.len + len_sum L

unfoldable pub span_sum : List Rec → ℕ
span_sum [] = 0
span_sum (r ∷ L) = r.spans + span_sum L

-- a start is 16 plus the lengths before, a span length 8 × its count
unfoldable pub body_end : List Rec → ℕ
body_end L = 16 + len_sum L

unfoldable pub span_end : List Rec → ℕ
span_end L = 16 + 8 * span_sum L

-- it counts n div 1,024 checkpoints for n records
unfoldable pub checkpoint_count : List Rec → ℕ
checkpoint_count L = length L / 1024

-- and a row per record with a value stored as 0
unfoldable pub takes_row : Kind → Rec → Bool
takes_row k r = stored_as_zero k (record { strides = r.len / 8; spans = r.spans })

unfoldable pub row_count : Kind → List Rec → ℕ
row_count k [] = 0
row_count k (r ∷ L) = cond (takes_row k r) (suc (row_count k L)) (row_count k L)

unfoldable pub book_ends : Kind → List Rec → Three ℕ
book_ends k L = record {
  slots = 16 + 2 * length L;
  rows = 16 + row_width k * row_count k L;
  checkpoints = 16 + checkpoint_width k * checkpoint_count L;
}

-- where the list ends; its last record can always be read
unfoldable pub list_end : List Rec → ListEnd
list_end L = record { unread = false; body = body_end L; span = span_end L }

-- ---- answers

-- it refuses by the table, with ends and counts taken from its own list
unfoldable pub book_refusal : Kind → Three ℕ → List Rec → Call → ℕ
book_refusal k size L c = table k (length L) (list_end L) (λ es. book_ends k (L ++ map rec_of es)) size c

-- append adds the batch, truncation to w keeps the first w, opening keeps all
unfoldable pub book_next : Kind → List Rec → Call → List Rec
book_next k L opening = L
book_next k L (append b) = L ++ records k b
book_next k L (truncate w) = take w L
book_next k L (read ids out) = L

-- the words of a record r that stands after the records P
unfoldable pub record_words : Kind → List Rec → Rec → List ℕ
record_words Paired P r = 1 ∷ body_end P ∷ r.len ∷ span_end P ∷ 8 * r.spans ∷ r.spans ∷ []
record_words Single P r = 1 ∷ body_end P ∷ r.len ∷ []

-- all are 0 where nothing is found
unfoldable pub book_words : Kind → List Rec → ℕ → List ℕ
book_words k L id =
    cond (within (length L) id) (record_words k (take (id - 1) L) (get_or L (id - 1) (record { len = 0; spans = 0 }))) (replicate (word_width k) 0)

-- compared are number, value and whole answer buffer of every finished call
pub record Reply : Type 0 where
  pub answer : Answer
  pub buffer : List ℕ

-- each answers the count; a refusal changes nothing
unfoldable pub book_reply : Kind → Three ℕ → List Rec → Call → Reply
book_reply k size L c = record {
  answer = answer (book_refusal k size L c) (value c (length (book_next k L c)));
  buffer = unless_refused (book_refusal k size L c) (buffer c (book_words k L)) (lent c);
}

-- whose crossing is at address x (document 02, Item 2): by the words of its own list
unfoldable pub book_span_at : List Rec → ℕ → Crossing
book_span_at L x = span_among (book_words Paired L) (length L) x

-- what record x needs by pairs (document 02, Item 9): of its own list only the length counts
unfoldable pub book_parts : List Rec → List ℕ → List ℕ → ℕ → List ℕ → Reply
book_parts L cs ps x out = record {
  answer = answer (parts_table (length L) cs ps x out) (length (needed cs ps x));
  buffer = unless_refused (parts_table (length L) cs ps x out) (written (needed cs ps x) out) out;
}

-- ---- tears

-- the longest first part, of at most n records, with no more than c checkpoints and r rows
unfoldable pub longest : Kind → ℕ → ℕ → List Rec → ℕ → List Rec
longest k c r L zero = []
longest k c r L (suc n) =
    cond (leb (checkpoint_count (take (suc n) L)) c && leb (row_count k (take (suc n) L)) r) (take (suc n) L) (longest k c r L n)

unfoldable pub longest_part : Kind → ℕ → ℕ → List Rec → List Rec
longest_part k c r L = longest k c r L (length L)

-- an append torn at s = 0 or 1 keeps the old list; from 2 on, the longest first part of the new list with no more
-- checkpoints, and at 2 also no more rows, than the old has
unfoldable pub append_torn : Kind → ℕ → List Rec → List Rec → List Rec
append_torn k zero L N = L
append_torn k (suc zero) L N = L
append_torn k (suc (suc zero)) L N = longest_part k (checkpoint_count L) (row_count k L) N
append_torn k (suc (suc (suc s))) L N = longest_part k (checkpoint_count L) (row_count k N) N

-- a truncation torn at 0 keeps all; from 1 on, the longest first part with no more checkpoints, and at 2 also no more
-- rows, than the first w have
unfoldable pub truncate_torn : Kind → ℕ → List Rec → List Rec → List Rec
truncate_torn k zero L W = L
truncate_torn k (suc zero) L W = longest_part k (checkpoint_count W) (row_count k L) L
truncate_torn k (suc (suc s)) L W = longest_part k (checkpoint_count W) (row_count k W) L

-- opening keeps all, torn too
unfoldable pub book_torn : Kind → ℕ → List Rec → Call → List Rec
book_torn k s L opening = L
book_torn k s L (append b) = append_torn k s L (L ++ records k b)
book_torn k s L (truncate w) = truncate_torn k s L (take w L)
book_torn k s L (read ids out) = L

-- ---- durable rows

-- how many records are durable where the rows have reached length d (document 02, Item 10): at an edge before its own rows' end as many as
-- the longest first part has with no more rows than lie before it
unfoldable pub book_withheld : Kind → ℕ → List Rec → ℕ
book_withheld k d L = limited k d (book_ends k L).rows (length L) (length (longest_part k (checkpoint_count L) ((d - 16) / row_width k) L))
