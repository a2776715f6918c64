-- Bytes 0 to 7 of an area are neither read nor written: whatever takes bytes looks from byte 8 on, or past an area's end.
-- An area may be of any length: one under 16 bytes counts as its length, past which there is nothing.
use Prim.Native.Nat.{ℕ, zero, suc, ◌+◌, ◌-◌, ◌*◌, ◌%◌, ◌≤◌, min}
use mathlib.Core.Path.{◌≡◌, refl, ap, ◌∙◌, subst, fun_ext}
use mathlib.Core.Logic.{◌⊎◌, inl, inr}
use mathlib.Core.Bool.{true, false}
use mathlib.Core.List.{List, [], ◌∷◌}
use native.Mathlib.Nat.{add-sub_of_le}
use native.Mathlib.Omega.{arith}
use lib.Dec.{leb, eqb}
use lib.ListN.{length, take, drop}
use lib.Seq.{drop-drop}
use borrow.Author.Tests.{leb-true}
use Rattle.loc_leaf.specs.declared.Kind.{Kind}
use Rattle.loc_leaf.specs.declared.Kind.TheVariants.{Paired, Single}
use Rattle.loc_leaf.specs.Bytes.{Bytes, bytes, number_at, store}
use Rattle.loc_leaf.specs.Answers.{refuse, answer}
use Rattle.loc_leaf.specs.Area.{counted, store_length, store_past, fill, published}
use Rattle.loc_leaf.specs.Kind.{row_width, checkpoint_width}
use Rattle.loc_leaf.specs.Slot.{slot_at}
use Rattle.loc_leaf.specs.Rows.{row_list}
use Rattle.loc_leaf.specs.Cut.{cuts, cut_for}
use Rattle.loc_leaf.proofs.Booleans.{is?, both_left}
use Rattle.loc_leaf.proofs.Stored.{length_store, take_store, drop_store_add}
use Rattle.loc_leaf.proofs.AreaLaws.{take_min, drop_min, length_store_past}
use Rattle.loc_calls.specs.Areas.{Three, each, Areas, sizes, count}
use Rattle.loc_calls.specs.Table.{Call, opening, append, truncate, read}
use Rattle.loc_calls.specs.Stores.{Place, keep, slot_length, row_length, checkpoint_length, write, step, run, differing, truncate_places, next_row, holds_next, cut_rule, ruled_count, ruled, open_places, ragged, open_refusal, settled, new_end, new_ends, append_places}
use Rattle.loc_calls.specs.Reading.{lookup_at, value_at, strides_after, spans_after, checkpoint_at, window_end, row_missing, any_missing, words_for, body_read, span_read, end_read}
use Rattle.loc_calls.specs.Audit.{body_end_after, span_end_after, checkpoint_sound, row_sound, rows_sound, sound}
use Rattle.loc_calls.specs.SpanAt.{span_among, span_at, span_at_outcome}
use Rattle.loc_calls.specs.Parts.{parts_refusal, parts}
use Rattle.loc_calls.specs.Withheld.{on_edge, limited, rows_before, cut_at, withheld_limit, withheld}
use Rattle.loc_calls.specs.Calls.{unless_refused, too_small, first_refusal, whole_refusal, unread, refusal, places, buffer, areas_after, call, create_places, create, audit}
use Rattle.loc_calls.specs.Guarantees.{AnyCall, index_call, creation, auditing, locating, composing, limiting, outcome, SameFrom8, SameOutcome, Unread, FirstBytesUnread, Unwritten, FirstBytesUnwritten}

-- ---- one area

-- two areas of one size that agree but for a head of at most 8 bytes
record Same (xs ys : Bytes) : Type 0 where
  head : ℕ
  short : head ≤ 8
  inside : head ≤ length xs
  size : length xs ≡ length ys
  rest : drop head xs ≡ drop head ys

same : (xs ys : Bytes) → length xs ≡ length ys → drop 8 xs ≡ drop 8 ys → Same xs ys
same xs ys l r = record {
  head = min 8 (length xs);
  short = omega arith;
  inside = omega arith;
  size = l;
  rest = rw (drop_min 8 xs, l, drop_min 8 ys) r;
}

module _ {xs ys : Bytes} (h : Same xs ys) where
  drop_same : (n : ℕ) → h.head ≤ n → drop n xs ≡ drop n ys
  drop_same n g = rw (← add-sub_of_le g, ← drop-drop (n - h.head) h.head xs, ← drop-drop (n - h.head) h.head ys, h.rest) refl

  store_same : (at : ℕ) (bs : Bytes) → h.head ≤ at → Same (store at bs xs) (store at bs ys)
  store_same at bs g = record {
    head = h.head;
    short = h.short;
    inside = rw (length_store at bs xs) h.inside;
    size = rw (length_store at bs xs, length_store at bs ys) h.size;
    rest = rw (← add-sub_of_le g, drop_store_add h.head (at - h.head) bs xs, drop_store_add h.head (at - h.head) bs ys, h.rest) refl;
  }

  -- the published end lies past the head
  past_head : h.head ≤ counted xs
  unfolding counted
  past_head = omega arith

  from_8 : drop 8 xs ≡ drop 8 ys
  from_8 = drop_same 8 h.short

  counted_same : counted xs ≡ counted ys
  unfolding counted number_at
  counted_same = rw (h.size, from_8) refl

  published_same : (w : ℕ) → published w xs ≡ published w ys
  unfolding published fill
  published_same w = rw (counted_same, drop_same 16 (omega arith)) refl

  slot_same : slot_at xs ≡ slot_at ys
  unfolding slot_at
  slot_same = fun_ext (λ id. ap (take 2) (drop_same (16 + 2 * (id - 1)) (omega arith)))

  checkpoint_same : (k : Kind) → checkpoint_at k xs ≡ checkpoint_at k ys
  unfolding checkpoint_at
  checkpoint_same k = fun_ext (λ w. ap (take (checkpoint_width k)) (drop_same (16 + checkpoint_width k * (w - 1)) (omega arith)))

  next_same : (k : Kind) → next_row k xs ≡ next_row k ys
  unfolding next_row
  next_same k = rw (drop_same (counted xs) past_head, counted_same) refl

  length_same : (v : ℕ) → Same (store_length v xs) (store_length v ys)
  unfolding store_length
  length_same v = store_same 8 (bytes 8 v) h.short

  past_same : (bs : Bytes) → Same (store_past bs xs) (store_past bs ys)
  unfolding store_past
  past_same bs = rw (← counted_same) (store_same (counted xs) bs past_head)

-- ---- three areas

pub record AllSame (a b : Areas) : Type 0 where
  slots : Same a.slots b.slots
  rows : Same a.rows b.rows
  checkpoints : Same a.checkpoints b.checkpoints

pub all_same : {a b : Areas} → SameFrom8 a b → AllSame a b
unfolding sizes
all_same h = record {
  slots = same _ _ (ap (λ (x : Three ℕ). x.slots) h.size) (ap (λ (x : Areas). x.slots) h.rest);
  rows = same _ _ (ap (λ (x : Three ℕ). x.rows) h.size) (ap (λ (x : Areas). x.rows) h.rest);
  checkpoints = same _ _ (ap (λ (x : Three ℕ). x.checkpoints) h.size) (ap (λ (x : Areas). x.checkpoints) h.rest);
}

same_sizes : {a b : Areas} → AllSame a b → sizes a ≡ sizes b
unfolding sizes
same_sizes h = rw (h.slots.size, h.rows.size, h.checkpoints.size) refl

whole : {a b : Areas} → AllSame a b → SameFrom8 a b
whole h = record { size = same_sizes h; rest = rw (from_8 h.slots, from_8 h.rows, from_8 h.checkpoints) refl }

step_same : {a b : Areas} (p : Place) → AllSame a b → AllSame (step p a) (step p b)
unfolding step
step_same keep h = h
step_same (slot_length v) h = record { slots = length_same h.slots v; rows = h.rows; checkpoints = h.checkpoints }
step_same (row_length v) h = record { slots = h.slots; rows = length_same h.rows v; checkpoints = h.checkpoints }
step_same (checkpoint_length v) h = record { slots = h.slots; rows = h.rows; checkpoints = length_same h.checkpoints v }
step_same (write bs) h = record {
  slots = past_same h.slots bs.slots;
  rows = past_same h.rows bs.rows;
  checkpoints = past_same h.checkpoints bs.checkpoints;
}

run_same : {a b : Areas} (s : ℕ) (ps : List Place) → AllSame a b → AllSame (run s ps a) (run s ps b)
unfolding run
run_same zero ps h = h
run_same (suc s) [] h = h
run_same {a = a} {b = b} (suc s) (p ∷ ps) h = run_same {a = step p a} {b = step p b} s ps (step_same p h)

unless_same : {a b c d : Areas} (n : ℕ) → AllSame c d → AllSame a b → AllSame (unless_refused n c a) (unless_refused n d b)
unfolding unless_refused
unless_same zero new old = new
unless_same (suc n) new old = old

-- ---- what a call takes from the areas

small_same : {a b : Areas} → AllSame a b → too_small a ≡ too_small b
unfolding too_small
small_same h = rw (h.slots.size, h.rows.size, h.checkpoints.size) refl

module _ (k : Kind) {a b : Areas} (h : AllSame a b) where
  pub count_same : count a ≡ count b
  unfolding count fill
  count_same = rw (counted_same h.slots) refl

  rows_same : row_list k a.rows ≡ row_list k b.rows
  unfolding row_list
  rows_same = published_same h.rows (row_width k)

  truncate_same : (n : ℕ) → truncate_places k n a ≡ truncate_places k n b
  unfolding truncate_places differing
  truncate_same n = rw (counted_same h.slots, counted_same h.rows, counted_same h.checkpoints, rows_same) refl

  ruled_count_same : ruled_count k a ≡ ruled_count k b
  unfolding ruled_count fill
  ruled_count_same = rw (count_same, counted_same h.checkpoints) refl

  ruled_same : AllSame (ruled k a) (ruled k b)
  unfolding ruled
  ruled_same = rw (ruled_count_same, truncate_same (ruled_count k b)) (run_same 3 (truncate_places k (ruled_count k b) b) h)

  cut_same : cut_rule k a ≡ cut_rule k b
  unfolding cut_rule holds_next cut_for cuts
  cut_same = rw (next_same h.rows k, counted_same h.rows, h.rows.size, rows_same, count_same, slot_same h.slots) refl

module _ (k : Kind) {a b : Areas} (h : AllSame a b) where
  open_same : open_places k a ≡ open_places k b
  unfolding open_places
  open_same = rw (cut_same k (ruled_same k h), truncate_same k (ruled_same k h) (cut_rule k (ruled k b)), ruled_count_same k h, truncate_same k h (ruled_count k b)) refl

  open_refusal_same : open_refusal k a ≡ open_refusal k b
  unfolding open_refusal ragged
  open_refusal_same = rw (counted_same h.slots, counted_same h.rows, counted_same h.checkpoints, rows_same k h) refl

  settled_same : settled k a ≡ settled k b
  unfolding settled
  settled_same = rw (open_refusal_same, open_same) refl

  pub first_same : first_refusal k a ≡ first_refusal k b
  first_same = rw (small_same h, settled_same) refl

  ends_same : new_ends k a ≡ new_ends k b
  unfolding new_ends new_end
  ends_same = fun_ext (λ es. rw (counted_same h.slots, counted_same h.rows, counted_same h.checkpoints, count_same k h) refl)

  lookup_same : lookup_at k a ≡ lookup_at k b
  unfolding lookup_at
  lookup_same = fun_ext (λ id. rw (rows_same k h, slot_same h.slots) refl)

  window_same : window_end k a ≡ window_end k b
  unfolding window_end
  window_same = fun_ext (λ at. fun_ext (go at))
    where
      go : (at w : ℕ) → window_end k a at w ≡ window_end k b at w
      go at zero = refl
      go at (suc w) = rw (checkpoint_same h.checkpoints k) refl

  missing_same : (ids : List ℕ) → any_missing k a ids ≡ any_missing k b ids
  unfolding any_missing row_missing
  missing_same [] = refl
  missing_same (id ∷ ids) = rw (count_same k h, lookup_same, missing_same ids) refl

  words_same : words_for k a ≡ words_for k b
  unfolding words_for strides_after spans_after value_at
  words_same = fun_ext (λ id. rw (count_same k h, lookup_same, window_same) refl)

  span_read_same : (j : Kind) → k ≡ j → span_read k a ≡ span_read k b
  unfolding span_read spans_after value_at
  span_read_same Paired e =
      rw (e, count_same k h, subst (λ (j : Kind). window_end j a ≡ window_end j b) e window_same, subst (λ (j : Kind). lookup_at j a ≡ lookup_at j b) e lookup_same) refl
  span_read_same Single e = rw e refl

  end_read_same : end_read k a ≡ end_read k b
  unfolding end_read row_missing body_read strides_after value_at
  end_read_same = rw (span_read_same k refl, count_same k h, lookup_same, window_same) refl

  checkpoint_sound_same : checkpoint_sound k a ≡ checkpoint_sound k b
  unfolding checkpoint_sound body_end_after span_end_after strides_after spans_after value_at
  checkpoint_sound_same = fun_ext (λ w. rw (count_same k h, lookup_same, window_same) refl)

  rows_sound_same : (rs : List Bytes) → rows_sound k a rs ≡ rows_sound k b rs
  unfolding rows_sound row_sound
  rows_sound_same [] = refl
  rows_sound_same (r ∷ rs) = rw (count_same k h, slot_same h.slots, rows_sound_same rs) refl

  sound_same : sound k a ≡ sound k b
  unfolding sound body_end_after span_end_after strides_after spans_after value_at fill
  sound_same = rw (count_same k h, lookup_same, checkpoint_sound_same, counted_same h.checkpoints, rows_same k h, rows_sound_same (row_list k b.rows)) refl

  -- ---- calls

  unread_same : (c : Call) → unread k a c ≡ unread k b c
  unfolding unread
  unread_same opening = refl
  unread_same (append x) = refl
  unread_same (truncate w) = refl
  unread_same (read ids out) = missing_same ids

  refusal_same : (c : Call) → refusal k c a ≡ refusal k c b
  unfolding refusal
  refusal_same c = rw (small_same h, open_refusal_same, settled_same, count_same k h, end_read_same, ends_same, same_sizes h, unread_same c) refl

  places_same : (c : Call) → places k c a ≡ places k c b
  unfolding places append_places differing new_end
  places_same opening = open_same
  places_same (append x) = rw (counted_same h.slots, counted_same h.rows, counted_same h.checkpoints, count_same k h) refl
  places_same (truncate w) = truncate_same k h w
  places_same (read ids out) = refl

  after_same : (s : ℕ) (c : Call) → AllSame (areas_after k s c a) (areas_after k s c b)
  unfolding areas_after
  after_same s c = rw (refusal_same c, places_same c) (unless_same (refusal k c b) (run_same s (places k c b) h) h)

  -- a row on an edge lies at 16 or later
  limit_same : (d : ℕ) → withheld_limit k d a ≡ withheld_limit k d b
  unfolding withheld_limit limited cut_at rows_before cut_for cuts on_edge
  limit_same d = go (is? (on_edge k d))
    where
      go : (on_edge k d ≡ true) ⊎ (on_edge k d ≡ false) → withheld_limit k d a ≡ withheld_limit k d b
      go (inl e) =
          rw (drop_same h.rows d (omega (arith, leb-true 16 d (both_left (leb 16 d) (eqb ((d - 16) % row_width k) 0) e))), counted_same h.rows, rows_same k h, count_same k h, slot_same h.slots) refl
      go (inr e) = rw (e, counted_same h.rows, count_same k h) refl

located_same : {a b : Areas} → AllSame a b → (x : ℕ) → span_at a x ≡ span_at b x
unfolding span_at whole_refusal span_among
located_same h x = rw (first_same Paired h, count_same Paired h, lookup_same Paired h, words_same Paired h) refl

outcome_same : (c : AnyCall) {a b : Areas} → AllSame a b → SameOutcome (outcome c a) (outcome c b)
unfolding outcome call create audit span_at_outcome parts parts_refusal withheld
outcome_same (index_call k s c) h = record {
  answer = rw (refusal_same k h c, count_same k (after_same k h s c)) refl;
  buffer = rw (refusal_same k h c, words_same k h) refl;
  areas = whole (after_same k h s c);
}
outcome_same creation {b = b} h = record {
  answer = rw (small_same h) refl;
  buffer = refl;
  areas = whole (rw (small_same h) (unless_same (refuse (too_small b) 1) (run_same 3 create_places h) h));
}
outcome_same (auditing k) h = record { answer = rw (small_same h, settled_same k h, sound_same k h) refl; buffer = refl; areas = whole h }
outcome_same (locating x) h = record { answer = rw (located_same h x) refl; buffer = rw (located_same h x) refl; areas = whole h }
outcome_same (composing cs ps x out) h = record { answer = rw (first_same Paired h, count_same Paired h) refl; buffer = rw (first_same Paired h, count_same Paired h) refl; areas = whole h }
outcome_same (limiting k d) h = record { answer = rw (first_same k h, limit_same k h d) refl; buffer = refl; areas = whole h }

pub first_bytes_unread : FirstBytesUnread
unfolding FirstBytesUnread Unread
first_bytes_unread c a b h = outcome_same c (all_same h)

-- ---- what a call stores

kept_length : (v : ℕ) (xs : Bytes) → take 8 (store_length v xs) ≡ take 8 xs
unfolding store_length
kept_length v xs = take_store 8 8 (bytes 8 v) xs (omega arith)

-- the published end lies at 8 or later, or at the end
kept_past : (bs xs : Bytes) → take 8 (store_past bs xs) ≡ take 8 xs
unfolding store_past counted
kept_past bs xs = rw (← take_min 8 (store_past bs xs), length_store_past bs xs, ← take_min 8 xs) (take_store (min 8 (length xs)) (counted xs) bs xs (omega arith))

kept_step : (p : Place) (a : Areas) → each (take 8) (step p a) ≡ each (take 8) a
unfolding step
kept_step keep a = refl
kept_step (slot_length v) a = rw (kept_length v a.slots) refl
kept_step (row_length v) a = rw (kept_length v a.rows) refl
kept_step (checkpoint_length v) a = rw (kept_length v a.checkpoints) refl
kept_step (write b) a = rw (kept_past b.slots a.slots, kept_past b.rows a.rows, kept_past b.checkpoints a.checkpoints) refl

kept_run : (s : ℕ) (ps : List Place) (a : Areas) → each (take 8) (run s ps a) ≡ each (take 8) a
unfolding run
kept_run zero ps a = refl
kept_run (suc s) [] a = refl
kept_run (suc s) (p ∷ ps) a = kept_run s ps (step p a) ∙ kept_step p a

kept_unless : (n : ℕ) (d a : Areas) → each (take 8) d ≡ each (take 8) a → each (take 8) (unless_refused n d a) ≡ each (take 8) a
unfolding unless_refused
kept_unless zero d a h = h
kept_unless (suc n) d a h = refl

pub first_bytes_unwritten : FirstBytesUnwritten
unfolding FirstBytesUnwritten Unwritten outcome call areas_after create audit span_at_outcome parts withheld
first_bytes_unwritten (index_call k s c) a = kept_unless (refusal k c a) (run s (places k c a) a) a (kept_run s (places k c a) a)
first_bytes_unwritten creation a = kept_unless (refuse (too_small a) 1) (run 3 create_places a) a (kept_run 3 create_places a)
first_bytes_unwritten (auditing k) a = refl
first_bytes_unwritten (locating x) a = refl
first_bytes_unwritten (composing cs ps x out) a = refl
first_bytes_unwritten (limiting k d) a = refl
