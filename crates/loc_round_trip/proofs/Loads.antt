-- Loads in an index, proved: drawn records are storable and end below 2^64, so their batch is one that an empty index takes.
-- Its readings are then the book's by demand 3, its listing is the load's text, and that text says the batch.
use Prim.Native.Nat.{ℕ, zero, suc, ◌+◌, ◌*◌, ◌^◌, ◌≤◌, ◌<◌}
use mathlib.Core.Path.{◌≡◌, refl, sym, ap, ◌∙◌}
use mathlib.Core.Bool.{Bool, true, false, cond}
use mathlib.Core.List.{List, [], ◌∷◌}
use native.Mathlib.Omega.{arith}
use lib.ListN.{length, length-map}
use Rattle.loc_leaf.specs.declared.Kind.TheVariants.{Paired}
use Rattle.loc_leaf.specs.Answers.{answer}
use Rattle.loc_calls.specs.Areas.{Three, Areas, sizes}
use Rattle.loc_calls.specs.Table.{append, read}
use Rattle.loc_calls.specs.Calls.{is_opening, call, create}
use Rattle.loc_calls.proofs.Gathered.{AllValid}
use Rattle.loc_calls.proofs.Chains.{Good}
use Rattle.loc_history.specs.Book.{Rec, rec_of, len_sum, span_sum, body_end, span_end, checkpoint_count, takes_row, row_count, book_ends, Reply, book_reply}
use Rattle.loc_history.specs.History.{EndsBelow, LawfulCall, AllSized, Stores}
use Rattle.loc_history.proofs.Steady.{Steady}
use Rattle.loc_history.proofs.Calls.{After, sizes_call, finished_call}
use Rattle.loc_history.proofs.History.{created_steady, steady_stores}
use Rattle.loc_parse.specs.Import.{append_listing}
use Rattle.loc_load.specs.Xorshift.{xorshift}
use Rattle.loc_load.specs.Load.{drawn, load, load_entries, load_batch, load_listing}
use Rattle.loc_load.proofs.LoadLaws.{load_length, Bounded, drawn_bounds, len_sum_lem, span_sum_lem}
use Rattle.loc_round_trip.specs.RoundTrip.{AllStorable, Enough}
use Rattle.loc_round_trip.specs.Loads.{loaded, TakesLoad, LoadTaken, LoadTakenFresh, ReadsLoad, LoadRead, RoomEnough}
use Rattle.loc_round_trip.proofs.Placed.{placed_recs, placed_valid, placed_good, stores_steady}
use Rattle.loc_round_trip.proofs.Taken.{taken, text_says, text_appends, Takes, list_taken, room_kept}

-- ---- the records

drawn_storable : (x n : ℕ) → AllStorable (load x n)
unfolding load AllStorable
drawn_storable x zero = tt
drawn_storable x (suc n) =
    let d : Bounded (drawn (xorshift x) (xorshift (xorshift x))) = drawn_bounds (xorshift x) (xorshift (xorshift x)) in (
      record { whole = d.whole; some = omega (arith, d.some); strides = omega (arith, d.short); spans = d.spans; narrow = omega (arith, d.few) },
      drawn_storable (xorshift (xorshift x)) n,
    )

ends_below : (seed n : ℕ) → 16 + 2400 * n < 2 ^ 64 → EndsBelow Paired (load seed n)
unfolding EndsBelow body_end span_end
ends_below seed n h = (omega (arith, len_sum_lem seed n), omega (arith, span_sum_lem seed n))

length_entries : (seed n : ℕ) → length (load_entries seed n) ≡ n
length_entries seed n = sym (length-map (load_entries seed n) rec_of) ∙ ap length (sym (placed_recs 16 16 (load seed n))) ∙ load_length seed n

-- ---- an empty index

empty_steady : (b : Areas) → AllSized b → Stores Paired b [] → Steady Paired b []
unfolding AllStorable EndsBelow body_end span_end len_sum span_sum
empty_steady b z t = stores_steady [] tt (omega arith, omega arith) b z t

-- a reading is the book's, with the sizes of the areas before
reads_book : (a : Areas) (L : List Rec) → Steady Paired a L → (size : Three ℕ) → sizes a ≡ size → (ids out : List ℕ)
    → ◌≡◌ {A = Reply} (record { answer = (call Paired 0 (read ids out) a).answer; buffer = (call Paired 0 (read ids out) a).buffer }) (book_reply Paired size L (read ids out))
reads_book a L t size e ids out =
    let f : After Paired a L (read ids out) = finished_call Paired a L t (read ids out) (unfold is_opening in refl) (unfold LawfulCall in tt) in
    rw (f.answer, f.buffer, e) refl

-- ---- a load

-- its text, appended to a fresh index with room for it, is the append of its batch, which takes it whole
pub record IntoFresh (seed n : ℕ) (b : Areas) : Type 0 where
  pub appends : append_listing 4 (load_listing seed n) (create b).areas ≡ taken (load_entries seed n) (create b).areas
  pub takes : Takes (load seed n) (load_entries seed n) (create b).areas

module _ (seed n : ℕ) (below : EndsBelow Paired (load seed n)) where
  valid : AllValid Paired (load_entries seed n)
  valid = placed_valid 16 16 (load seed n) (drawn_storable seed n)

  good : Good (load_entries seed n)
  good = placed_good (load seed n) below

  -- an empty index with room for it
  module _ (b : Areas) (o : Steady Paired b []) (room : Enough (load seed n) b) where
    takes : Takes (load seed n) (load_entries seed n) b
    takes = list_taken (load seed n) (load_entries seed n) (placed_recs 16 16 (load seed n)) valid good b o room

    takes_load : TakesLoad seed n b
    unfolding load_listing
    takes_load = record {
      lawful = takes.lawful;
      accepted = takes.answers ∙ ap (answer 0) (load_length seed n);
      holds = steady_stores Paired (loaded seed n b) (load seed n) takes.steady;
      reads = reads_book (loaded seed n b) (load seed n) takes.steady (sizes b) (sizes_call Paired 4 (append (load_batch seed n)) b);
      lists = takes.lists;
    }

  -- its text
  module _ (few : length (load_entries seed n) ≤ 1024) where
    reads_load : ReadsLoad seed n
    unfolding load_listing
    reads_load = record {
      says = text_says (load_entries seed n) valid good few;
      appends = λ b z t s. text_appends (load_entries seed n) valid good few b (empty_steady b z t) s;
    }

    into_fresh : (b : Areas) → AllSized b → Enough (load seed n) b → IntoFresh seed n b
    unfolding load_listing
    into_fresh b z room = record {
      appends = text_appends (load_entries seed n) valid good few (create b).areas (created_steady b z Paired) 4;
      takes = takes (create b).areas (created_steady b z Paired) (room_kept b z (load seed n) room);
    }

pub load_taken : LoadTaken
unfolding LoadTaken
load_taken seed n h b z t room = takes_load seed n (ends_below seed n (omega arith)) b (empty_steady b z t) room

pub load_taken_fresh : LoadTakenFresh
unfolding LoadTakenFresh
load_taken_fresh seed n h b z room = takes_load seed n (ends_below seed n (omega arith)) (create b).areas (created_steady b z Paired) (room_kept b z (load seed n) room)

pub load_read : LoadRead
unfolding LoadRead
load_read seed n h = reads_load seed n (ends_below seed n (omega arith)) (omega (arith, length_entries seed n))

pub load_into_fresh : (seed n : ℕ) → n ≤ 1024 → (b : Areas) → AllSized b → Enough (load seed n) b → IntoFresh seed n b
load_into_fresh seed n h b z room = into_fresh seed n (ends_below seed n (omega arith)) (omega (arith, length_entries seed n)) b z room

-- ---- room for any records

rows_at_most : (L : List Rec) → row_count Paired L ≤ length L
unfolding row_count
rows_at_most [] = omega arith
rows_at_most (r ∷ L) = go (rows_at_most L) (takes_row Paired r)
  where
    go : row_count Paired L ≤ length L → (b : Bool) → cond b (suc (row_count Paired L)) (row_count Paired L) ≤ suc (length L)
    go l true = omega arith
    go l false = omega arith

pub room_enough : RoomEnough
unfolding RoomEnough book_ends checkpoint_count
room_enough L b h = record { slots = h.slots; rows = omega (arith, h.rows, rows_at_most L); checkpoints = h.checkpoints }
