-- Areas that store a list of records which append takes hold it whole, as the proofs of demand 3 have it.
-- The list's records, placed from 16 on, make a good list.
use Prim.Native.Nat.{ℕ, suc, ◌+◌, ◌-◌, ◌*◌, ◌/◌, ◌^◌, ◌<◌}
use mathlib.Core.Path.{◌≡◌, refl, sym, ap, ◌∙◌}
use mathlib.Core.List.{List, [], ◌∷◌, map}
use native.Mathlib.Nat.{add-sub_cancel_left, mul-div_cancel_left}
use native.Mathlib.Omega.{arith}
use lib.ListN.{length, drop}
use lib.Seq.{take_all}
use Rattle.loc_leaf.specs.declared.Kind.TheVariants.{Paired}
use Rattle.loc_leaf.specs.Bytes.{Bytes}
use Rattle.loc_leaf.specs.Area.{counted, pieces, fill, published}
use Rattle.loc_leaf.proofs.AreaLaws.{counted_le}
use Rattle.loc_leaf.proofs.ValueLaws.{SpansFit}
use Rattle.loc_calls.specs.Areas.{Three, each, Areas}
use Rattle.loc_calls.specs.Table.{Entry, value_of}
use Rattle.loc_calls.specs.Stores.{staged}
use Rattle.loc_calls.proofs.Gathered.{slots_of, rows_of, checkpoints_of, AllValid, length_slots, length_checkpoints}
use Rattle.loc_calls.proofs.Holds.{Holds}
use Rattle.loc_calls.proofs.Opening.{Full}
use Rattle.loc_calls.proofs.Chains.{Chained, Good}
use Rattle.loc_calls.proofs.Appending.{whole_ends, AllBelow}
use Rattle.loc_calls.proofs.Bounds.{good_below}
use Rattle.loc_history.specs.Book.{Rec, rec_of, body_end, span_end, book_ends}
use Rattle.loc_history.specs.History.{EndsBelow, Sized, AllSized, placed, Stores}
use Rattle.loc_history.proofs.BookLaws.{body_end_lem, span_end_lem, ends_are}
use Rattle.loc_history.proofs.Steady.{Steady}
use Rattle.loc_round_trip.specs.RoundTrip.{AllStorable}

-- ---- the placed list

pub placed_recs : (b s : ℕ) (L : List Rec) → L ≡ map rec_of (placed b s L)
unfolding placed rec_of
placed_recs b s [] = refl
placed_recs b s (r ∷ L) = ap (λ (l : List Rec). r ∷ l) (placed_recs (b + r.len) (s + 8 * r.spans) L)

placed_chained : (b s : ℕ) (L : List Rec) → Chained b s (placed b s L)
unfolding placed Chained
placed_chained b s [] = tt
placed_chained b s (r ∷ L) = (refl, refl, placed_chained (b + r.len) (s + 8 * r.spans) L)

pub placed_valid : (b s : ℕ) (L : List Rec) → AllStorable L → AllValid Paired (placed b s L)
unfolding placed AllStorable AllValid value_of SpansFit
placed_valid b s [] h = tt
placed_valid b s (r ∷ L) h = (
  record { whole = h.0.whole; value = record { some = omega (arith, h.0.some, h.0.whole); fits = h.0.strides; spans_fit = (h.0.spans, h.0.narrow) } },
  placed_valid (b + r.len) (s + 8 * r.spans) L h.1,
)

pub placed_good : (L : List Rec) → EndsBelow Paired L → Good (placed 16 16 L)
unfolding EndsBelow
placed_good L h = record {
  chained = placed_chained 16 16 L;
  body = rw (ap body_end (placed_recs 16 16 L) ∙ body_end_lem (placed 16 16 L)) at h.0;
  span = rw (ap span_end (placed_recs 16 16 L) ∙ span_end_lem (placed 16 16 L)) at h.1;
}

-- ---- an area that publishes just these pieces

held : (w : ℕ) (xs : Bytes) (items : List Bytes) (n : ℕ) → length items ≡ n → 0 < w → Sized xs → counted xs ≡ 16 + w * n → 16 + w * n < 2 ^ 64 → published w xs ≡ items → Holds w xs items n
unfolding Sized published fill
held w xs items n l p z e b q = record {
  big = z;
  end = e;
  inside = omega (arith, l);
  below = rw l b;
  room = rw l (omega (arith, e, counted_le xs));
  same = rw l (ap (λ (m : ℕ). pieces w m (drop 16 xs)) (sym number) ∙ q);
}
  where
    number : (counted xs - 16) / w ≡ n
    number = rw (e, add-sub_cancel_left 16 (w * n)) (mul-div_cancel_left n p)

-- ---- the areas

module _ (L : List Rec) (v : AllStorable L) (below : EndsBelow Paired L) (a : Areas) (z : AllSized a) (t : Stores Paired a L) where
  abbrev E : List Entry
  E = placed 16 16 L

  valid : AllValid Paired E
  valid = placed_valid 16 16 L v

  ends : each counted a ≡ whole_ends Paired E
  ends = t.ends ∙ ap (book_ends Paired) (placed_recs 16 16 L) ∙ ends_are Paired E valid

  under : AllBelow (whole_ends Paired E)
  under = good_below Paired E valid (placed_good L below)

  full : Full Paired a E
  unfolding whole_ends staged
  full = record {
    slots = held 2 a.slots (slots_of Paired E) (length E) (length_slots Paired 0 E) (omega arith) z.slots (ap (λ (x : Three ℕ). x.slots) ends) under.slots (ap (λ (x : Three (List Bytes)). x.slots) t.pieces);
    rows =
        rw (take_all (suc (length (rows_of Paired E))) (rows_of Paired E) (omega arith))
        (held 16 a.rows (rows_of Paired E) (length (rows_of Paired E)) refl (omega arith) z.rows (ap (λ (x : Three ℕ). x.rows) ends) under.rows (ap (λ (x : Three (List Bytes)). x.rows) t.pieces));
    checkpoints =
        rw (take_all (length E / 1024) (checkpoints_of Paired E) (omega (arith, length_checkpoints Paired E)))
        (held 16 a.checkpoints (checkpoints_of Paired E) (length E / 1024) (length_checkpoints Paired E) (omega arith) z.checkpoints (ap (λ (x : Three ℕ). x.checkpoints) ends) under.checkpoints (ap (λ (x : Three (List Bytes)). x.checkpoints) t.pieces));
    valid = valid;
  }

  pub stores_steady : Steady Paired a L
  stores_steady = record { E = E; full = full; is = placed_recs 16 16 L; good = placed_good L below }
