-- What the table's tests of a batch leave: valid records, each of which starts where the one before ends, and room for them.
-- A batch that is not refused and starts where a good list ends makes a longer good list.
use Prim.Native.Nat.{ℕ, zero, suc, ◌+◌, ◌*◌, ◌^◌, ◌≤◌, ◌<◌}
use mathlib.Core.Path.{◌≡◌, refl, ◌∙◌}
use mathlib.Core.Bool.{false, not, ◌||◌}
use mathlib.Core.List.{List, [], ◌∷◌, ◌++◌, flatten}
use native.Mathlib.Omega.{arith}
use lib.Dec.{ltb, eqb}
use lib.ListN.{length, replicate}
use borrow.Author.Tests.{ltb-false, eqb-true, eqb-false, not-false}
use Rattle.loc_leaf.specs.declared.Kind.{Kind}
use Rattle.loc_leaf.specs.declared.Kind.TheVariants.{Paired, Single}
use Rattle.loc_leaf.specs.Bytes.{Bytes}
use Rattle.loc_leaf.specs.Answers.{refuse, ◌or_else◌}
use Rattle.loc_leaf.specs.Slot.{strides_refusal}
use Rattle.loc_leaf.proofs.Booleans.{neither_left, neither_right}
use Rattle.loc_leaf.proofs.SlotLaws.{WholeStrides, strides_fit}
use Rattle.loc_leaf.proofs.Refusals.{or_else_left, or_else_right, refuse_zero}
use Rattle.loc_leaf.proofs.AreaLaws.{counted_le}
use Rattle.loc_leaf.proofs.ValueLaws.{SpansFit}
use Rattle.loc_calls.specs.Areas.{Three, Areas, sizes, count}
use Rattle.loc_calls.specs.Table.{Entry, value_of, saturated, body_after, span_after, Batch, zipped, entries, spanless, breaks, entry_refusal, entries_refusal, ListEnd, start_refusal, end_past, batch_refusal}
use Rattle.loc_calls.specs.Stores.{gather, staged, new_end, new_ends}
use Rattle.loc_calls.proofs.Gathered.{ValidEntry, AllValid}
use Rattle.loc_calls.proofs.Chains.{lens, spans, lens_append, spans_append, Chained, chained_append, Good}

-- ---- valid records

-- a span count as a list of 32-bit numbers brings it; where single there is none
unfoldable pub SpansOf : Kind → List Entry → Type 0
SpansOf k [] = Unit
SpansOf Paired (e ∷ es) = (e.spans < 2 ^ 32) × SpansOf Paired es
SpansOf Single (e ∷ es) = (e.spans ≡ 0) × SpansOf Single es

-- 8, 22, 9 and 10 leave a valid record
module _ (k : Kind) (e : Entry) (es : List Entry) (h : entry_refusal k e es ≡ 0) where
  pub some_spans : spanless k e ≡ false
  unfolding entry_refusal
  some_spans = refuse_zero (spanless k e) 7 (or_else_left (refuse (spanless k e) 8) (strides_refusal e.len or_else breaks e es) h)

  later : (strides_refusal e.len or_else breaks e es) ≡ 0
  unfolding entry_refusal
  later = or_else_right (refuse (spanless k e) 8) (strides_refusal e.len or_else breaks e es) h

  pub whole_strides : WholeStrides e.len
  whole_strides = strides_fit e.len (or_else_left (strides_refusal e.len) (breaks e es) later)

  unbroken : breaks e es ≡ 0
  unbroken = or_else_right (strides_refusal e.len) (breaks e es) later

valid_entry : (k : Kind) (e : Entry) (es : List Entry) → entry_refusal k e es ≡ 0 → SpansOf k (e ∷ []) → ValidEntry k e
unfolding value_of
valid_entry k e es h n =
    let t : WholeStrides e.len = whole_strides k e es h in
    record { whole = t.0; value = record { some = t.1; fits = t.2; spans_fit = spans k (some_spans k e es h) n } }
  where
    spans : (k : Kind) → spanless k e ≡ false → SpansOf k (e ∷ []) → SpansFit k e.spans
    spans Paired t n = unfold SpansFit SpansOf spanless in (let z : e.spans ≡ 0 → ⊥ = eqb-false e.spans 0 t in (omega arith, n.0))
    spans Single t n = unfold SpansFit SpansOf in n.0

pub all_valid : (k : Kind) (es : List Entry) → entries_refusal k es ≡ 0 → SpansOf k es → AllValid k es
unfolding entries_refusal AllValid
all_valid k [] h n = tt
all_valid k (e ∷ es) h n = (
  valid_entry k e es (or_else_left (entry_refusal k e es) (entries_refusal k es) h) (first k n),
  all_valid k es (or_else_right (entry_refusal k e es) (entries_refusal k es) h) (rest k n),
)
  where
    first : (k : Kind) → SpansOf k (e ∷ es) → SpansOf k (e ∷ [])
    first Paired n = unfold SpansOf in (n.0, tt)
    first Single n = unfold SpansOf in (n.0, tt)

    rest : (k : Kind) → SpansOf k (e ∷ es) → SpansOf k es
    rest Paired n = unfold SpansOf in n.1
    rest Single n = unfold SpansOf in n.1

-- a single batch brings no spans, and says that they start at 16
zipped_spans : (ss ls ps : List ℕ) (n : ℕ) → SpansOf Single (zipped ss ls ps (replicate n 0))
unfolding SpansOf zipped
zipped_spans [] ls ps n = tt
zipped_spans (s ∷ ss) [] ps n = tt
zipped_spans (s ∷ ss) (l ∷ ls) [] n = tt
zipped_spans (s ∷ ss) (l ∷ ls) (p ∷ ps) zero = tt
zipped_spans (s ∷ ss) (l ∷ ls) (p ∷ ps) (suc n) = (refl, zipped_spans ss ls ps n)

pub single_spans : (b : Batch) → SpansOf Single (entries Single b)
unfolding entries
single_spans b = zipped_spans b.starts b.lens (replicate (length b.lens) 16) (length b.lens)

-- ---- a chain

-- two starts that a test of them does not refuse
same_start : (x y n : ℕ) → refuse (not (eqb x y)) (suc n) ≡ 0 → x ≡ y
same_start x y n t = eqb-true x y (not-false (eqb x y) (refuse_zero (not (eqb x y)) n t))

-- 11 and 12 leave a chain
chain_step : (e d : Entry) (ds : List Entry) → breaks e (d ∷ ds) ≡ 0 → (d.start ≡ body_after e) × (d.span_start ≡ span_after e)
unfolding breaks
chain_step e d ds h = (
  same_start d.start (body_after e) 10 (or_else_left (refuse (not (eqb d.start (body_after e))) 11) (refuse (not (eqb d.span_start (span_after e))) 12) h),
  same_start d.span_start (span_after e) 11 (or_else_right (refuse (not (eqb d.start (body_after e))) 11) (refuse (not (eqb d.span_start (span_after e))) 12) h),
)

-- 23 and 24 leave a batch that carries on
pub carries_on : (end : ListEnd) (e : Entry) → start_refusal end e ≡ 0 → (e.start ≡ saturated end.body) × (e.span_start ≡ saturated end.span)
unfolding start_refusal
carries_on end e h = (same_start e.start (saturated end.body) 22 (or_else_left body span both), same_start e.span_start (saturated end.span) 23 (or_else_right body span both))
  where
    body : ℕ
    body = refuse (not (eqb e.start (saturated end.body))) 23

    span : ℕ
    span = refuse (not (eqb e.span_start (saturated end.span))) 24

    both : (body or_else span) ≡ 0
    both = or_else_right (refuse end.unread 17) (body or_else span) h

chain_of : (k : Kind) (b s : ℕ) (e : Entry) (es : List Entry) → entries_refusal k (e ∷ es) ≡ 0 → e.start ≡ b → e.span_start ≡ s
    → b + lens (e ∷ es) < 2 ^ 64 → s + 8 * spans (e ∷ es) < 2 ^ 64 → Chained b s (e ∷ es)
unfolding Chained lens spans
chain_of k b s e [] h p q hb hs = (p, q, tt)
chain_of k b s e (d ∷ ds) h p q hb hs = (
  p,
  q,
  chain_of k (b + e.len) (s + 8 * e.spans) d ds rest (next_body (chain_step e d ds links)) (next_span (chain_step e d ds links)) (omega arith) (omega arith),
)
  where
    rest : entries_refusal k (d ∷ ds) ≡ 0
    rest = unfold entries_refusal in or_else_right (entry_refusal k e (d ∷ ds)) (entries_refusal k (d ∷ ds)) h

    links : breaks e (d ∷ ds) ≡ 0
    links = unfold entries_refusal in unbroken k e (d ∷ ds) (or_else_left (entry_refusal k e (d ∷ ds)) (entries_refusal k (d ∷ ds)) h)

    next_body : (d.start ≡ body_after e) × (d.span_start ≡ span_after e) → d.start ≡ b + e.len
    next_body t = unfold body_after in (t.0 ∙ omega arith)

    next_span : (d.start ≡ body_after e) × (d.span_start ≡ span_after e) → d.span_start ≡ s + 8 * e.spans
    next_span t = unfold span_after in (t.1 ∙ omega arith)

-- a batch that is not refused, starts where a good list ends and ends below 2^64, makes it longer
pub good_append : (k : Kind) (E : List Entry) (e : Entry) (es : List Entry) → Good E → entries_refusal k (e ∷ es) ≡ 0
    → e.start ≡ 16 + lens E → e.span_start ≡ 16 + 8 * spans E → 16 + lens (E ++ (e ∷ es)) < 2 ^ 64 → 16 + 8 * spans (E ++ (e ∷ es)) < 2 ^ 64 → Good (E ++ (e ∷ es))
good_append k E e es g h p q hb hs = record {
  chained =
      chained_append 16 16 E (e ∷ es) (16 + lens E) (16 + 8 * spans E) refl refl g.chained
      (chain_of k (16 + lens E) (16 + 8 * spans E) e es h p q (omega (arith, lens_append E (e ∷ es))) (omega (arith, spans_append E (e ∷ es))));
  body = hb;
  span = hs;
}

-- ---- what an accepted batch has passed

module _ (k : Kind) (end : ListEnd) (ends size : Three ℕ) (e : Entry) (es : List Entry) (h : batch_refusal k end ends size (e ∷ es) ≡ 0) where
  pub start_tested : start_refusal end e ≡ 0
  unfolding batch_refusal
  start_tested = or_else_left (start_refusal end e) (entries_refusal k (e ∷ es) or_else refuse (end_past ends size) 13) h

  past_start : (entries_refusal k (e ∷ es) or_else refuse (end_past ends size) 13) ≡ 0
  unfolding batch_refusal
  past_start = or_else_right (start_refusal end e) (entries_refusal k (e ∷ es) or_else refuse (end_past ends size) 13) h

  entries_tested : entries_refusal k (e ∷ es) ≡ 0
  entries_tested = or_else_left (entries_refusal k (e ∷ es)) (refuse (end_past ends size) 13) past_start

  inside : end_past ends size ≡ false
  inside = refuse_zero (end_past ends size) 12 (or_else_right (entries_refusal k (e ∷ es)) (refuse (end_past ends size) 13) past_start)

pub batch_tested : (k : Kind) (end : ListEnd) (ends size : Three ℕ) (es : List Entry) → batch_refusal k end ends size es ≡ 0 → entries_refusal k es ≡ 0
unfolding entries_refusal
batch_tested k end ends size [] h = refl
batch_tested k end ends size (e ∷ es) h = entries_tested k end ends size e es h

-- ---- room

-- 13 leaves new ends within their areas
pub record Fits (a : Areas) (b : Three (List Bytes)) : Type 0 where
  pub slots : new_end a.slots b.slots ≤ length a.slots
  pub rows : new_end a.rows b.rows ≤ length a.rows
  pub checkpoints : new_end a.checkpoints b.checkpoints ≤ length a.checkpoints

none_past : (x y : Three ℕ) → end_past x y ≡ false → (x.slots ≤ y.slots) × (x.rows ≤ y.rows) × (x.checkpoints ≤ y.checkpoints)
unfolding end_past
none_past x y h = (
  ltb-false _ _ (neither_left (ltb y.slots x.slots) (ltb y.rows x.rows) first_two),
  ltb-false _ _ (neither_right (ltb y.slots x.slots) (ltb y.rows x.rows) first_two),
  ltb-false _ _ (neither_right (ltb y.slots x.slots || ltb y.rows x.rows) (ltb y.checkpoints x.checkpoints) h),
)
  where
    first_two : (ltb y.slots x.slots || ltb y.rows x.rows) ≡ false
    first_two = neither_left (ltb y.slots x.slots || ltb y.rows x.rows) (ltb y.checkpoints x.checkpoints) h

pub batch_fits : (k : Kind) (end : ListEnd) (a : Areas) (es : List Entry) → batch_refusal k end (new_ends k a es) (sizes a) es ≡ 0 → Fits a (staged k (count a) es)
unfolding gather staged new_end new_ends flatten
batch_fits k end a [] h = record { slots = omega (arith, counted_le a.slots); rows = omega (arith, counted_le a.rows); checkpoints = omega (arith, counted_le a.checkpoints) }
batch_fits k end a (e ∷ es) h = record { slots = room.0; rows = room.1; checkpoints = room.2 }
  where
    ends : Three ℕ
    ends = new_ends k a (e ∷ es)

    room : (ends.slots ≤ length a.slots) × (ends.rows ≤ length a.rows) × (ends.checkpoints ≤ length a.checkpoints)
    room = unfold sizes in none_past ends (sizes a) (inside k end ends (sizes a) e es h)
