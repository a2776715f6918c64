-- The calls, and the table of refusals that count, ends and sizes decide: 7 to 16, append's 17, 22 to 24 (document 01, "What each call gives"; document 02, Items 3 and 5).
-- The index and the book both refuse by this table.
use Rattle.std.specs.Prelude.{ℕ, ◌+◌, ◌-◌, ◌*◌, ◌/◌, ◌^◌, min, Bool, false, not, ◌&&◌, List, [], ◌∷◌, map, ltb, eqb, length, replicate}
use Rattle.loc_leaf.specs.declared.Kind.{Kind}
use Rattle.loc_leaf.specs.declared.Kind.TheVariants.{Paired, Single}
use Rattle.loc_leaf.specs.declared.Value.{Value}
use Rattle.loc_leaf.specs.Answers.{refuse, ◌or_else◌}
use Rattle.loc_leaf.specs.Slot.{strides_refusal}
use Rattle.loc_calls.specs.Areas.{Three, each₂, some}

-- four lent lists of numbers; where single the last two are not looked at
pub record Batch : Type 0 where
  pub starts : List ℕ
  pub lens : List ℕ
  pub span_starts : List ℕ
  pub span_counts : List ℕ

abbrev pub batch : List ℕ → List ℕ → List ℕ → List ℕ → Batch
batch starts lens span_starts span_counts = record { starts = starts; lens = lens; span_starts = span_starts; span_counts = span_counts }

-- a reading brings the wanted numbers and the answer buffer
pub data Call : Type 0 where
  opening : Call
  append : Batch → Call
  truncate : ℕ → Call
  read : List ℕ → List ℕ → Call

-- a record as a batch brings it; where single it has no spans, and they start at 16
pub record Entry : Type 0 where
  pub start : ℕ
  pub len : ℕ
  pub span_start : ℕ
  pub spans : ℕ

-- what slot and row say of it: length to strides, divide by 8
unfoldable pub value_of : Entry → Value
value_of e = record { strides = e.len / 8; spans = e.spans }

-- sums saturate at 2^64 − 1
abbrev pub saturated : ℕ → ℕ
saturated v = min (2 ^ 64 - 1) v

-- where the next body and the next spans start
unfoldable pub body_after : Entry → ℕ
body_after e = saturated (e.start + e.len)

unfoldable pub span_after : Entry → ℕ
span_after e = saturated (e.span_start + 8 * e.spans)

-- as far as the shortest list reaches
unfoldable pub zipped : List ℕ → List ℕ → List ℕ → List ℕ → List Entry
zipped (s ∷ ss) (l ∷ ls) (p ∷ ps) (c ∷ cs) = record { start = s; len = l; span_start = p; spans = c } ∷ zipped ss ls ps cs
zipped (s ∷ ss) (l ∷ ls) (p ∷ ps) [] = []
zipped (s ∷ ss) (l ∷ ls) [] cs = []
zipped (s ∷ ss) [] ps cs = []
zipped [] ls ps cs = []

unfoldable pub entries : Kind → Batch → List Entry
entries Paired b = zipped b.starts b.lens b.span_starts b.span_counts
entries Single b = zipped b.starts b.lens (replicate (length b.lens) 16) (replicate (length b.lens) 0)

-- and back: the lists of paired records
abbrev pub batch_of : List Entry → Batch
batch_of es = batch (map (λ (e : Entry). e.start) es) (map (λ (e : Entry). e.len) es) (map (λ (e : Entry). e.span_start) es) (map (λ (e : Entry). e.spans) es)

-- a reading stores per wanted number six 64-bit words or, single, three
abbrev pub word_width : Kind → ℕ
word_width Paired = 6
word_width Single = 3

-- ---- the table

-- 7: batch lists differ in length
unfoldable pub uneven : Kind → Batch → Bool
uneven Paired b =
    not (eqb (length b.starts) (length b.lens) && eqb (length b.span_starts) (length b.lens) && eqb (length b.span_counts) (length b.lens))
uneven Single b = not (eqb (length b.starts) (length b.lens))

-- 8: span count 0 (paired)
unfoldable pub spanless : Kind → Entry → Bool
spanless Paired e = eqb e.spans 0
spanless Single e = false

-- 11: next body start is not start + length, saturated; 12: the same for spans (paired)
unfoldable pub breaks : Entry → List Entry → ℕ
breaks e [] = 0
breaks e (d ∷ ds) = refuse (not (eqb d.start (body_after e))) 11 or_else refuse (not (eqb d.span_start (span_after e))) 12

-- 8, 22, 9 to 12
unfoldable pub entry_refusal : Kind → Entry → List Entry → ℕ
entry_refusal k e es = refuse (spanless k e) 8 or_else strides_refusal e.len or_else breaks e es

-- record by record
unfoldable pub entries_refusal : Kind → List Entry → ℕ
entries_refusal k [] = 0
entries_refusal k (e ∷ es) = entry_refusal k e es or_else entries_refusal k es

-- where a list of records ends: the last record's start plus length in each stream, not saturated yet; 16 in a stream that has none
pub record ListEnd : Type 0 where
  -- the last record cannot be read
  pub unread : Bool
  pub body : ℕ
  pub span : ℕ

-- 17: the last record cannot be read; 23: the first body start is not where the list ends; 24: the same for spans (paired)
unfoldable pub start_refusal : ListEnd → Entry → ℕ
start_refusal end e =
    refuse end.unread 17
    or_else refuse (not (eqb e.start (saturated end.body))) 23
    or_else refuse (not (eqb e.span_start (saturated end.span))) 24

-- 13: a new end lies past its area
unfoldable pub end_past : Three ℕ → Three ℕ → Bool
end_past ends size = some (each₂ ltb size ends)

-- an empty batch accepted; 17, 23, 24; record by record 8, 22, 9 to 12; then 13
unfoldable pub batch_refusal : Kind → ListEnd → Three ℕ → Three ℕ → List Entry → ℕ
batch_refusal k end ends size [] = 0
batch_refusal k end ends size (e ∷ es) = start_refusal end e or_else entries_refusal k (e ∷ es) or_else refuse (end_past ends size) 13

-- given the count, where the list ends, the ends that a batch would reach, and the sizes;
-- 14: truncation past the count; 15: more than 1,024 numbers; 16: answer buffer too short
unfoldable pub table : Kind → ℕ → ListEnd → (List Entry → Three ℕ) → Three ℕ → Call → ℕ
table k n end ends size opening = 0
table k n end ends size (append b) = refuse (uneven k b) 7 or_else batch_refusal k end (ends (entries k b)) size (entries k b)
table k n end ends size (truncate w) = refuse (ltb n w) 14
table k n end ends size (read ids out) = refuse (ltb 1024 (length ids)) 15 or_else refuse (ltb (length out) (word_width k * length ids)) 16
