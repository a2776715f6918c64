-- The batch of a good list of valid records: its lists, and that an empty index with room for it takes it.
-- 7, 23 and 24, 8 to 12 and 22, 13 are passed one by one.
use Prim.Native.Nat.{ℕ, ◌+◌, ◌*◌, ◌^◌, ◌<◌}
use mathlib.Core.Path.{◌≡◌, refl, ap, ◌∙◌}
use mathlib.Core.Bool.{true, false}
use mathlib.Core.List.{List, [], ◌∷◌, map}
use native.Mathlib.Omega.{arith}
use lib.Dec.{eqb}
use lib.ListN.{length, length-map}
use borrow.Author.Tests.{eq-eqb, ne_eqb, le-ltb}
use Rattle.loc_leaf.specs.declared.Kind.TheVariants.{Paired}
use Rattle.loc_leaf.specs.Slot.{strides_refusal}
use Rattle.loc_leaf.proofs.SlotLaws.{strides_good}
use Rattle.loc_leaf.proofs.ValueLaws.{SpansFit}
use Rattle.loc_calls.specs.Areas.{Areas, sizes}
use Rattle.loc_calls.specs.Table.{Entry, value_of, body_after, span_after, append, zipped, entries, batch_of, uneven, spanless, breaks, entry_refusal, entries_refusal, start_refusal, end_past, batch_refusal, table}
use Rattle.loc_calls.proofs.Gathered.{AllValid}
use Rattle.loc_calls.proofs.Chains.{lens, spans, Chained, Good}
use Rattle.loc_history.specs.Book.{Rec, rec_of, records, len_sum, span_sum, body_end, span_end, book_ends, list_end, book_refusal}
use Rattle.loc_history.specs.History.{EndsBelow, Narrow, LawfulCall}
use Rattle.loc_history.proofs.BookLaws.{body_end_lem, span_end_lem}
use Rattle.loc_parse.proofs.LinesBack.{AllFit}
use Rattle.loc_round_trip.specs.RoundTrip.{Enough}

-- ---- its numbers fit their widths

pub all_fit : (b s : ℕ) (E : List Entry) → Chained b s E → AllValid Paired E → b + lens E < 2 ^ 64 → s + 8 * spans E < 2 ^ 64 → AllFit E
unfolding Chained AllValid AllFit lens spans value_of SpansFit
all_fit b s [] c v hb hs = tt
all_fit b s (e ∷ E) c v hb hs = (
  record { start = omega (arith, c.0); len = omega arith; span_start = omega (arith, c.1); spans = v.0.value.spans_fit.1 },
  all_fit (b + e.len) (s + 8 * e.spans) E c.2 v.1 (omega arith) (omega arith),
)

-- ---- its lists

zipped_own : (E : List Entry) → zipped (map (λ (e : Entry). e.start) E) (map (λ (e : Entry). e.len) E) (map (λ (e : Entry). e.span_start) E) (map (λ (e : Entry). e.spans) E) ≡ E
unfolding zipped
zipped_own [] = refl
zipped_own (e ∷ E) = ap (λ (l : List Entry). e ∷ l) (zipped_own E)

pub entries_own : (E : List Entry) → entries Paired (batch_of E) ≡ E
unfolding entries
entries_own E = zipped_own E

pub narrow_own : (E : List Entry) → AllFit E → Narrow Paired (map (λ (e : Entry). e.spans) E)
unfolding AllFit Narrow
narrow_own [] f = tt
narrow_own (e ∷ E) f = (f.0.spans, narrow_own E f.1)

even : (E : List Entry) → uneven Paired (batch_of E) ≡ false
unfolding uneven
even E = simp (length-map, eq-eqb (length E) (length E) refl)

-- ---- 23 and 24

first_at_16 : (e : Entry) → e.start ≡ 16 → e.span_start ≡ 16 → start_refusal (list_end []) e ≡ 0
unfolding start_refusal list_end body_end span_end len_sum span_sum
first_at_16 e p q = rw (p, q) refl

-- ---- 8, 22, 9 to 12

entries_good : (b s : ℕ) (E : List Entry) → Chained b s E → AllValid Paired E → b + lens E < 2 ^ 64 → s + 8 * spans E < 2 ^ 64 → entries_refusal Paired E ≡ 0
unfolding entries_refusal Chained AllValid lens spans
entries_good b s [] c v hb hs = refl
entries_good b s (e ∷ E) c v hb hs =
    rw (first E c.2 (omega arith) (omega arith)) (entries_good (b + e.len) (s + 8 * e.spans) E c.2 v.1 (omega arith) (omega arith))
  where
    some_spans : spanless Paired e ≡ false
    some_spans = unfold spanless value_of SpansFit in ne_eqb e.spans 0 (λ z. omega (arith, v.0.value.spans_fit.0))

    strides : strides_refusal e.len ≡ 0
    strides = unfold value_of in strides_good e.len (v.0.whole, v.0.value.some, v.0.value.fits)

    body : (x : ℕ) → x ≡ b + e.len → b + e.len < 2 ^ 64 → eqb x (body_after e) ≡ true
    body x q l = unfold body_after in eq-eqb x (body_after e) (q ∙ omega (arith, c.0))

    span : (x : ℕ) → x ≡ s + 8 * e.spans → s + 8 * e.spans < 2 ^ 64 → eqb x (span_after e) ≡ true
    span x q l = unfold span_after in eq-eqb x (span_after e) (q ∙ omega (arith, c.1))

    first : (E : List Entry) → Chained (b + e.len) (s + 8 * e.spans) E → b + e.len < 2 ^ 64 → s + 8 * e.spans < 2 ^ 64 → entry_refusal Paired e E ≡ 0
    first [] k l m = unfold entry_refusal breaks in rw (some_spans, strides) refl
    first (d ∷ D) k l m = unfold entry_refusal breaks in rw (some_spans, strides, body d.start k.0 l, span d.span_start k.1 m) refl

-- ---- 13

none_past : (L : List Rec) (b : Areas) → Enough L b → end_past (book_ends Paired L) (sizes b) ≡ false
unfolding end_past sizes
none_past L b h =
    rw (
      le-ltb (length b.slots) (book_ends Paired L).slots h.slots,
      le-ltb (length b.rows) (book_ends Paired L).rows h.rows,
      le-ltb (length b.checkpoints) (book_ends Paired L).checkpoints h.checkpoints,
    ) refl

-- ---- an empty index takes it

module _ (E : List Entry) (v : AllValid Paired E) (g : Good E) (b : Areas) (h : Enough (map rec_of E) b) where
  batch_good : (D : List Entry) → Chained 16 16 D → entries_refusal Paired D ≡ 0 → end_past (book_ends Paired (map rec_of D)) (sizes b) ≡ false
      → batch_refusal Paired (list_end []) (book_ends Paired (map rec_of D)) (sizes b) D ≡ 0
  unfolding batch_refusal Chained
  batch_good [] c p q = refl
  batch_good (d ∷ D) c p q = rw (first_at_16 d c.0 c.1, p, q) refl

  pub book_accepts : book_refusal Paired (sizes b) [] (append (batch_of E)) ≡ 0
  unfolding book_refusal table
  book_accepts =
      rw (even E, entries_own E)
      (batch_good E g.chained (entries_good 16 16 E g.chained v g.body g.span) (none_past (map rec_of E) b h))

  pub batch_lawful : LawfulCall Paired (sizes b) [] (append (batch_of E))
  unfolding LawfulCall EndsBelow records
  batch_lawful = (narrow_own E (all_fit 16 16 E g.chained v g.body g.span), λ _. rw (entries_own E, body_end_lem E, span_end_lem E) (g.body, g.span))
