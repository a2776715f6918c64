-- A batch that is not refused carries on: it makes a good list longer.
-- Where single there are no spans.
use Prim.Native.Nat.{ℕ, ◌+◌, ◌*◌, ◌^◌, ◌<◌}
use mathlib.Core.Path.{◌≡◌, sym, ap, ◌∙◌}
use mathlib.Core.List.{List, [], ◌∷◌, ◌++◌, map, map-append, append-nil}
use native.Mathlib.Omega.{arith}
use Rattle.loc_leaf.specs.declared.Kind.{Kind}
use Rattle.loc_leaf.specs.declared.Kind.TheVariants.{Paired, Single}
use Rattle.loc_calls.specs.Areas.{Three}
use Rattle.loc_calls.specs.Table.{Entry, saturated, Batch, zipped, entries, batch_refusal}
use Rattle.loc_calls.proofs.Gathered.{AllValid, valid_append}
use Rattle.loc_calls.proofs.Chains.{lens, spans, Good}
use Rattle.loc_calls.proofs.Batches.{SpansOf, single_spans, carries_on, good_append, start_tested, batch_tested}
use Rattle.loc_calls.proofs.Ends.{no_spans, end_of}
use Rattle.loc_history.specs.Book.{rec_of, body_end, span_end}
use Rattle.loc_history.specs.History.{EndsBelow, Narrow}
use Rattle.loc_history.proofs.BookLaws.{body_end_lem, span_end_lem}

zipped_narrow : (ss ls ps cs : List ℕ) → Narrow Paired cs → SpansOf Paired (zipped ss ls ps cs)
unfolding SpansOf zipped Narrow
zipped_narrow [] ls ps cs n = tt
zipped_narrow (s ∷ ss) [] ps cs n = tt
zipped_narrow (s ∷ ss) (l ∷ ls) [] cs n = tt
zipped_narrow (s ∷ ss) (l ∷ ls) (p ∷ ps) [] n = tt
zipped_narrow (s ∷ ss) (l ∷ ls) (p ∷ ps) (c ∷ cs) n = (n.0, zipped_narrow ss ls ps cs n.1)

pub batch_spans : (k : Kind) (b : Batch) → Narrow k b.span_counts → SpansOf k (entries k b)
unfolding entries
batch_spans Paired b n = zipped_narrow b.starts b.lens b.span_starts b.span_counts n
batch_spans Single b n = single_spans b

record Ends (E es : List Entry) : Type 0 where
  body : 16 + lens (E ++ es) < 2 ^ 64
  span : 16 + 8 * spans (E ++ es) < 2 ^ 64

ends_of : (k : Kind) (E es : List Entry) → AllValid k (E ++ es) → EndsBelow k (map rec_of E ++ map rec_of es) → Ends E es
unfolding EndsBelow
ends_of Paired E es v h =
    record { body = rw joined_body at h.0; span = rw joined_span at h.1 }
  where
    joined_body : body_end (map rec_of E ++ map rec_of es) ≡ 16 + lens (E ++ es)
    joined_body = ap body_end (sym (map-append rec_of E es)) ∙ body_end_lem (E ++ es)

    joined_span : span_end (map rec_of E ++ map rec_of es) ≡ 16 + 8 * spans (E ++ es)
    joined_span = ap span_end (sym (map-append rec_of E es)) ∙ span_end_lem (E ++ es)
ends_of Single E es v h = record { body = rw joined_body at h; span = omega (arith, no_spans (E ++ es) v) }
  where
    joined_body : body_end (map rec_of E ++ map rec_of es) ≡ 16 + lens (E ++ es)
    joined_body = ap body_end (sym (map-append rec_of E es)) ∙ body_end_lem (E ++ es)

-- 23 and 24 leave a batch that carries on
pub good_more : (k : Kind) (E es : List Entry) (ends size : Three ℕ) → AllValid k E → AllValid k es → Good E
    → batch_refusal k (end_of E) ends size es ≡ 0 → EndsBelow k (map rec_of E ++ map rec_of es) → Good (E ++ es)
good_more k E [] ends size vE v g h f = rw (append-nil E) g
good_more k E (e ∷ es) ends size vE v g h f =
    good_append k E e es g (batch_tested k (end_of E) ends size (e ∷ es) h) (omega (arith, starts.0, g.body)) (omega (arith, starts.1, g.span)) below.body below.span
  where
    starts : (e.start ≡ saturated (16 + lens E)) × (e.span_start ≡ saturated (16 + 8 * spans E))
    starts = carries_on (end_of E) e (start_tested k (end_of E) ends size e es h)

    below : Ends E (e ∷ es)
    below = ends_of k E (e ∷ es) (valid_append k E (e ∷ es) vE v) f
