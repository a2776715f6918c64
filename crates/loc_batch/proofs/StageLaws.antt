-- Staged bytes written record by record, in the form in which the code meets them.
-- What is left to write, on what is written so far, is the whole.
use Prim.Native.Nat.{ℕ, zero, suc, ◌+◌, ◌-◌, ◌/◌, ◌%◌, ◌^◌, ◌≤◌, ◌<◌}
use mathlib.Core.Path.{◌≡◌, refl, sym, ap, ◌∙◌, subst}
use mathlib.Core.Bool.{Bool, true, false}
use mathlib.Core.List.{List, [], ◌∷◌, ◌++◌, append-nil, append_assoc, flatten}
use native.Mathlib.Nat.{add-zero, zero-add, sub-zero, pow-suc, div-div-eq-div-mul, div-one}
use native.Mathlib.Omega.{arith}
use lib.ListN.{length, take, drop, set, length-append, length-take, length-drop, drop_of_length-le}
use lib.Seq.{take_all}
use Rattle.std.specs.Int.{w32, w64, to_le_bytes, byte_at, bytes_low_first}
use Rattle.std.proofs.lemmas.List.{drop-drop}
use borrow.Rule.Slice.PartMut.{put_mid}
use borrow.Author.Tests.{eq-eqb, ne_eqb}
use Rattle.loc_leaf.specs.declared.Kind.{Kind}
use Rattle.loc_leaf.specs.declared.Kind.TheVariants.{Paired, Single}
use Rattle.loc_leaf.specs.declared.Value.{Value}
use Rattle.loc_leaf.specs.Bytes.{Bytes, bytes, store}
use Rattle.loc_leaf.specs.Area.{counted, store_past}
use Rattle.loc_leaf.proofs.AreaLaws.{counted_le}
use Rattle.loc_leaf.specs.Kind.{row_width, checkpoint_width}
use Rattle.loc_leaf.specs.Slot.{slot, stored_as_zero}
use Rattle.loc_leaf.specs.Rows.{row}
use Rattle.loc_leaf.proofs.Stored.{length_bytes, length_store, store_is}
use Rattle.loc_leaf.proofs.ValueLaws.{length_slot, length_row}
use Rattle.loc_leaf.specs.Answers.{◌or_else◌}
use Rattle.loc_calls.specs.Areas.{Areas, Three, areas, each}
use Rattle.loc_calls.specs.Table.{Entry, value_of, body_after, span_after, entry_refusal, entries_refusal}
use Rattle.loc_leaf.proofs.Refusals.{or_else_left, or_else_right}
use Rattle.loc_calls.specs.Stores.{checkpoint, gather, slot_of, row_of, checkpoint_of, write, step, staged}
use Rattle.loc_calls.proofs.Gathered.{length_checkpoint}
use Rattle.loc_batch.specs.Lists.{listed, Sound, Written, Room, Staged, left}
use Rattle.loc_batch.proofs.BatchLaws.{needed, listed_next, listed_end, left_sound}

-- ---- stores one after the other

pub store_append : (to : ℕ) (xs ys l : Bytes) → store to (xs ++ ys) l ≡ store (to + length xs) ys (store to xs l)
unfolding store
store_append to [] ys l = rw (add-zero to) refl
store_append to (x ∷ xs) ys l = let e : suc to + length xs ≡ to + suc (length xs) = omega arith in rw (← e) (store_append (suc to) xs ys (set l to x))

-- the bytes that are copied into a part that is lent for them
pub part_put : (xs : Bytes) (to : ℕ) (bs : Bytes) → to + length bs ≤ length xs → put_mid to (to + length bs - to) xs bs ≡ store to bs xs
part_put xs to bs h = let e : to + length bs - to ≡ length bs = omega arith in sym (store_is to bs xs h ∙ rw (e, drop-drop (length bs) to xs) refl)

-- ---- the part of an area that begins at a place, lent to a writer

part_length : (xs : Bytes) (to : ℕ) → length (take (length xs - to) (drop to xs)) ≡ length xs - to
part_length xs to = length-take (length xs - to) (drop to xs) ∙ rw (length-drop to xs) (omega arith)

part_stored : (xs : Bytes) (to : ℕ) (bs ys : Bytes) → to + length bs ≤ length xs → ys ≡ store 0 bs (take (length xs - to) (drop to xs)) → put_mid to (length xs - to) xs ys ≡ store to bs xs
part_stored xs to bs ys h w = rw (written, none, append-nil, drop-drop (length bs) to xs) (sym (store_is to bs xs h))
  where
    long : length (drop to xs) ≤ length xs - to
    long = rw (length-drop to xs) (omega arith)

    whole : take (length xs - to) (drop to xs) ≡ drop to xs
    whole = take_all (length xs - to) (drop to xs) long

    fits : 0 + length bs ≤ length (drop to xs)
    fits = rw (length-drop to xs) (omega arith)

    written : ys ≡ bs ++ drop (length bs) (drop to xs)
    written = w ∙ rw whole (store_is 0 bs (drop to xs) fits ∙ rw (zero-add (length bs)) refl)

    none : drop (length xs - to) (drop to xs) ≡ []
    none = drop_of_length-le (drop to xs) long

-- the library's bytes of a number
byte_is : (i v : ℕ) → byte_at i v ≡ v / 256 ^ i % 256
byte_is zero v = rw (div-one v) refl
byte_is (suc i) v = refl

le_bytes : (i k v : ℕ) → bytes_low_first i k v ≡ bytes k (v / 256 ^ i)
unfolding bytes
le_bytes i zero v = refl
le_bytes i (suc k) v = rw (le_bytes (suc i) k v, byte_is i v, div-div-eq-div-mul v (256 ^ i) 256, ← pow-suc 256 i) refl

pub le_bytes_64 : (v : ℕ) → to_le_bytes w64 v ≡ bytes 8 v
le_bytes_64 v = le_bytes 0 8 v ∙ ap (bytes 8) (div-one v)

pub le_bytes_32 : (v : ℕ) → to_le_bytes w32 v ≡ bytes 4 v
le_bytes_32 v = le_bytes 0 4 v ∙ ap (bytes 4) (div-one v)

-- one piece
one_piece : (b : Bytes) → flatten (b ∷ []) ≡ b
unfolding flatten
one_piece b = append-nil b

-- ---- a slot

module _ (k : Kind) (id : ℕ) (e : Entry) (v : Value) (ev : v ≡ value_of e) (out : Bytes) (to : ℕ) where
  pub slot_written : (after : Bytes) → after ≡ store to (slot k v) out → Written out to (slot_of k id e) after (to + 2)
  slot_written after q = record {
    stored = q ∙ rw (one_piece (slot k (value_of e)), ev) refl;
    past = rw (one_piece (slot k (value_of e)), length_slot k (value_of e)) refl;
  }

-- ---- a row

module _ (k : Kind) (id to : ℕ) (v : Value) (out a b x y : Bytes) (ex : x ≡ to_le_bytes w64 id) (ey : y ≡ to_le_bytes w32 v.strides) (p : a ≡ store to x out) (q : b ≡ store (to + 8) y a) where
  two : b ≡ store to (bytes 8 id ++ bytes 4 v.strides) out
  two = q ∙ rw (p, ex ∙ le_bytes_64 id, ey ∙ le_bytes_32 v.strides, store_append to (bytes 8 id) (bytes 4 v.strides) out, length_bytes 8 id) refl

  pub row_single : k ≡ Single → b ≡ store to (row k id v) out
  unfolding row
  row_single e = two ∙ rw e refl

  pub row_paired : (d z : Bytes) → k ≡ Paired → z ≡ to_le_bytes w32 v.spans → d ≡ store (to + 12) z b → d ≡ store to (row k id v) out
  unfolding row
  row_paired d z e ez r = r ∙ rw (e, two, ez ∙ le_bytes_32 v.spans, ← append_assoc (bytes 8 id) (bytes 4 v.strides) (bytes 4 v.spans), store_append to (bytes 8 id ++ bytes 4 v.strides) (bytes 4 v.spans) out, length-append (bytes 8 id) (bytes 4 v.strides), length_bytes 8 id, length_bytes 4 v.strides) refl

-- the row of a record that needs one, and of one that does not
module _ (k : Kind) (id : ℕ) (e : Entry) (s : Sound k e) (h : e.spans < 2 ^ 32) (v : Value) (ev : v ≡ value_of e) (b : Bool) (eb : b ≡ stored_as_zero k v) (to : ℕ) where
  some : b ≡ true → flatten (row_of k id e) ≡ row k id v
  unfolding row_of
  some t = rw (← needed k e s h v ev b eb, t, one_piece (row k id (value_of e)), ev) refl

  pub row_room : b ≡ true → (size : ℕ) → to + length (flatten (row_of k id e)) ≤ size → to + row_width k ≤ size
  row_room t size g = rw (some t, length_row k id v) at g

  pub row_written : b ≡ true → (out m : Bytes) (w : ℕ) → m ≡ store to (row k id v) out → w ≡ row_width k → Written out to (row_of k id e) m (to + w)
  row_written t out m w q ew = record { stored = rw (some t) q; past = rw (some t, length_row k id v, ew) refl }

  pub row_passed : b ≡ false → (out : Bytes) → Written out to (row_of k id e) out to
  row_passed t out = record { stored = unfold store in rw none refl; past = rw none (sym (add-zero to)) }
    where
      none : flatten (row_of k id e) ≡ []
      none = unfold row_of in rw (← needed k e s h v ev b eb, t) (unfold flatten in refl)

-- ---- a checkpoint

module _ (k : Kind) (e : Entry) (to v : ℕ) (ev : v ≡ body_after e) (out a x : Bytes) (ex : x ≡ to_le_bytes w64 v) (p : a ≡ store to x out) where
  one : a ≡ store to (bytes 8 (body_after e)) out
  one = p ∙ rw (ex ∙ le_bytes_64 v, ev) refl

  pub checkpoint_single : k ≡ Single → a ≡ store to (checkpoint k e) out
  unfolding checkpoint
  checkpoint_single q = one ∙ rw q refl

  pub checkpoint_paired : (w : ℕ) (b y : Bytes) → k ≡ Paired → w ≡ span_after e → y ≡ to_le_bytes w64 w → b ≡ store (to + 8) y a → b ≡ store to (checkpoint k e) out
  unfolding checkpoint
  checkpoint_paired w b y q ew ey r = r ∙ rw (q, one, ey ∙ le_bytes_64 w, ew, store_append to (bytes 8 (body_after e)) (bytes 8 (span_after e)) out, length_bytes 8 (body_after e)) refl

module _ (k : Kind) (id : ℕ) (e : Entry) (out : Bytes) (to : ℕ) where
  module _ (h : id % 1024 ≡ 0) where
    only : flatten (checkpoint_of k id e) ≡ checkpoint k e
    unfolding checkpoint_of
    only = rw (eq-eqb (id % 1024) 0 h) (one_piece (checkpoint k e))

    pub checkpoint_room : to + length (flatten (checkpoint_of k id e)) ≤ length out → to + checkpoint_width k ≤ length out
    checkpoint_room g = rw (only, length_checkpoint k e) at g

    pub checkpoint_written : (m : Bytes) (w : ℕ) → m ≡ store to (checkpoint k e) out → w ≡ checkpoint_width k → Written out to (checkpoint_of k id e) m (to + w)
    checkpoint_written m w q ew = record { stored = rw only q; past = rw (only, length_checkpoint k e, ew) refl }

  pub checkpoint_passed : (id % 1024 ≡ 0 → ⊥) → Written out to (checkpoint_of k id e) out to
  checkpoint_passed h = record { stored = unfold store in rw none refl; past = rw none (sym (add-zero to)) }
    where
      none : flatten (checkpoint_of k id e) ≡ []
      none = unfold checkpoint_of in rw (ne_eqb (id % 1024) 0 h) (unfold flatten in refl)

-- ---- one record after the other

-- the pieces of the records es are still to be written at a place of out, which makes it the whole
pub record Left (g : ℕ → Entry → List Bytes) (m : ℕ) (es : List Entry) (out : Bytes) (to : ℕ) (whole : Bytes) : Type 0 where
  pub same : whole ≡ store to (flatten (gather g m es)) out
  pub room : to + length (flatten (gather g m es)) ≤ length out

flatten_append : (xs ys : List Bytes) → flatten (xs ++ ys) ≡ flatten xs ++ flatten ys
unfolding flatten
flatten_append [] ys = refl
flatten_append (x ∷ xs) ys = rw (flatten_append xs ys) (sym (append_assoc x (flatten xs) (flatten ys)))

module _ (g : ℕ → Entry → List Bytes) (m : ℕ) (out : Bytes) (to : ℕ) (whole : Bytes) where
  pub left_begin : (es : List Entry) → to + length (flatten (gather g m es)) ≤ length out → Left g m es out to (store to (flatten (gather g m es)) out)
  left_begin es h = record { same = refl; room = h }

  pub left_end : Left g m [] out to whole → out ≡ whole
  unfolding gather flatten store
  left_end l = sym l.same

  module _ (e : Entry) (es : List Entry) (l : Left g m (e ∷ es) out to whole) where
    parts : flatten (gather g m (e ∷ es)) ≡ flatten (g (suc m) e) ++ flatten (gather g (suc m) es)
    unfolding gather
    parts = flatten_append (g (suc m) e) (gather g (suc m) es)

    pub left_room : to + length (flatten (g (suc m) e)) ≤ length out
    left_room = omega (arith, l.room, ap length parts, length-append (flatten (g (suc m) e)) (flatten (gather g (suc m) es)))

    pub left_turn : (after : Bytes) (next : ℕ) → Written out to (g (suc m) e) after next → Left g (suc m) es after next whole
    left_turn after next w = record {
      same = l.same ∙ rw (parts, store_append to (flatten (g (suc m) e)) (flatten (gather g (suc m) es)) out, ← w.stored, ← w.past) refl;
      room = omega (arith, l.room, w.past, ap length parts, length-append (flatten (g (suc m) e)) (flatten (gather g (suc m) es)), ap length w.stored, length_store to (flatten (g (suc m) e)) out);
    }

-- the same at record i of a batch: it is numbered id, and e is what stands there
module _ (f : ℕ → Entry) (base n i : ℕ) (h : i < n) (e : Entry) (ee : e ≡ f i) (id : ℕ) (eid : id ≡ base + 1 + i) where
  numbered : id ≡ suc (base + i)
  numbered = eid ∙ omega arith

  module _ (g : ℕ → Entry → List Bytes) (out : Bytes) (to : ℕ) (whole : Bytes) (l : Left g (base + i) (listed f i (n - i)) out to whole) where
    here : Left g (base + i) (e ∷ listed f (i + 1) (n - (i + 1))) out to whole
    here = subst (λ (es : List Entry). Left g (base + i) es out to whole) (listed_next f i n h ∙ ap (λ (d : Entry). d ∷ listed f (i + 1) (n - (i + 1))) (sym ee)) l

    pub at_room : to + length (flatten (g id e)) ≤ length out
    at_room = rw numbered (left_room g (base + i) out to whole e (listed f (i + 1) (n - (i + 1))) here)

    pub at_turn : (after : Bytes) (next : ℕ) → Written out to (g id e) after next → Left g (base + (i + 1)) (listed f (i + 1) (n - (i + 1))) after next whole
    at_turn after next w =
        let m : base + (i + 1) ≡ suc (base + i) = omega arith in
        rw m (left_turn g (base + i) out to whole e (listed f (i + 1) (n - (i + 1))) here after next (rw numbered at w))

  -- and is not refused
  module _ (k : Kind) (ok : entries_refusal k (listed f i (n - i)) ≡ 0) where
    tested : entry_refusal k e (listed f (i + 1) (n - (i + 1))) or_else entries_refusal k (listed f (i + 1) (n - (i + 1))) ≡ 0
    unfolding entries_refusal
    tested = sym (ap (entries_refusal k) (listed_next f i n h ∙ ap (λ (d : Entry). d ∷ listed f (i + 1) (n - (i + 1))) (sym ee))) ∙ ok

    pub at_sound : Sound k e
    at_sound = left_sound k e (listed f (i + 1) (n - (i + 1))) (sym (or_else_left (entry_refusal k e (listed f (i + 1) (n - (i + 1)))) (entries_refusal k (listed f (i + 1) (n - (i + 1)))) tested))

    pub at_rest : entries_refusal k (listed f (i + 1) (n - (i + 1))) ≡ 0
    at_rest = or_else_right (entry_refusal k e (listed f (i + 1) (n - (i + 1)))) (entries_refusal k (listed f (i + 1) (n - (i + 1)))) tested

pub slot_room : (k : Kind) (id : ℕ) (e : Entry) (to n : ℕ) → to + length (flatten (slot_of k id e)) ≤ n → to + 2 ≤ n
slot_room k id e to n h = rw (one_piece (slot k (value_of e)), length_slot k (value_of e)) at h

pub left_done : (g : ℕ → Entry → List Bytes) (f : ℕ → Entry) (base n i : ℕ) (out : Bytes) (to : ℕ) (whole : Bytes) → n ≤ i → Left g (base + i) (listed f i (n - i)) out to whole → out ≡ whole
left_done g f base n i out to whole h l = left_end g (base + i) out to whole (subst (λ (es : List Entry). Left g (base + i) es out to whole) (listed_end f i n h) l)

-- all three parts at record i
pub record Writing (k : Kind) (f : ℕ → Entry) (base n i : ℕ) (a : Areas) (to : Three ℕ) (a₀ : Areas) : Type 0 where
  pub accepted : entries_refusal k (listed f i (n - i)) ≡ 0
  pub slots_left : Left (slot_of k) (base + i) (listed f i (n - i)) a.slots to.slots (store 0 (flatten (gather (slot_of k) base (listed f 0 n))) a₀.slots)
  pub rows_left : Left (row_of k) (base + i) (listed f i (n - i)) a.rows to.rows (store 0 (flatten (gather (row_of k) base (listed f 0 n))) a₀.rows)
  pub checkpoints_left : Left (checkpoint_of k) (base + i) (listed f i (n - i)) a.checkpoints to.checkpoints (store 0 (flatten (gather (checkpoint_of k) base (listed f 0 n))) a₀.checkpoints)

module _ (k : Kind) (f : ℕ → Entry) (base n : ℕ) (a₀ : Areas) where
  pub writing_begin : Room k base (listed f 0 n) (each length a₀) → Writing k f base n 0 a₀ (record { slots = 0; rows = 0; checkpoints = 0 }) a₀
  writing_begin r = record {
    accepted = rw (sub-zero n) r.accepted;
    slots_left = begun (slot_of k) a₀.slots r.in_slots;
    rows_left = begun (row_of k) a₀.rows r.in_rows;
    checkpoints_left = begun (checkpoint_of k) a₀.checkpoints r.in_checkpoints;
  }
    where
      begun : (g : ℕ → Entry → List Bytes) (out : Bytes) → length (flatten (gather g base (listed f 0 n))) ≤ length out
          → Left g (base + 0) (listed f 0 (n - 0)) out 0 (store 0 (flatten (gather g base (listed f 0 n))) out)
      begun g out h = rw (add-zero base, sub-zero n) (left_begin g base out 0 [] (listed f 0 n) (omega arith))

  module _ (i : ℕ) (a : Areas) (to : Three ℕ) (w : Writing k f base n i a to a₀) where
    pub writing_end : n ≤ i → Staged k base (listed f 0 n) a₀ a
    writing_end h = record {
      is_slots = left_done (slot_of k) f base n i a.slots to.slots _ h w.slots_left;
      is_rows = left_done (row_of k) f base n i a.rows to.rows _ h w.rows_left;
      is_checkpoints = left_done (checkpoint_of k) f base n i a.checkpoints to.checkpoints _ h w.checkpoints_left;
    }

    module _ (h : i < n) (e : Entry) (ee : e ≡ f i) (id : ℕ) (eid : id ≡ base + 1 + i) where
      pub writing_sound : Sound k e
      writing_sound = at_sound f base n i h e ee id eid k w.accepted

      pub writing_slot : to.slots + 2 ≤ length a.slots
      writing_slot = slot_room k id e to.slots (length a.slots) (at_room f base n i h e ee id eid (slot_of k) a.slots to.slots _ w.slots_left)

      pub writing_row : to.rows + length (flatten (row_of k id e)) ≤ length a.rows
      writing_row = at_room f base n i h e ee id eid (row_of k) a.rows to.rows _ w.rows_left

      pub writing_checkpoint : to.checkpoints + length (flatten (checkpoint_of k id e)) ≤ length a.checkpoints
      writing_checkpoint = at_room f base n i h e ee id eid (checkpoint_of k) a.checkpoints to.checkpoints _ w.checkpoints_left

      pub writing_turn : (a' : Areas) (to' : Three ℕ) → Written a.slots to.slots (slot_of k id e) a'.slots to'.slots → Written a.rows to.rows (row_of k id e) a'.rows to'.rows
          → Written a.checkpoints to.checkpoints (checkpoint_of k id e) a'.checkpoints to'.checkpoints → Writing k f base n (i + 1) a' to' a₀
      writing_turn a' to' p q r = record {
        accepted = at_rest f base n i h e ee id eid k w.accepted;
        slots_left = at_turn f base n i h e ee id eid (slot_of k) a.slots to.slots _ w.slots_left a'.slots to'.slots p;
        rows_left = at_turn f base n i h e ee id eid (row_of k) a.rows to.rows _ w.rows_left a'.rows to'.rows q;
        checkpoints_left = at_turn f base n i h e ee id eid (checkpoint_of k) a.checkpoints to.checkpoints _ w.checkpoints_left a'.checkpoints to'.checkpoints r;
      }

-- ---- the parts of three areas

module _ (k : Kind) (base : ℕ) (es : List Entry) (a : Areas) (r : Room k base es (each left a)) (x y z : ℕ) (ex : x ≡ counted a.slots) (ey : y ≡ counted a.rows) (ez : z ≡ counted a.checkpoints) where
  -- they begin at the published ends
  abbrev parts_of : Areas
  parts_of = areas (take (length a.slots - x) (drop x a.slots)) (take (length a.rows - y) (drop y a.rows)) (take (length a.checkpoints - z) (drop z a.checkpoints))

  pub parts_room : Room k base es (each length parts_of)
  parts_room = record {
    accepted = r.accepted;
    in_slots = omega (arith, part_length a.slots x, r.in_slots);
    in_rows = omega (arith, part_length a.rows y, r.in_rows);
    in_checkpoints = omega (arith, part_length a.checkpoints z, r.in_checkpoints);
    in_numbers = r.in_numbers;
  }

  pub parts_staged : (s t u : Bytes) → Staged k base es parts_of (areas s t u)
      → areas (put_mid x (length a.slots - x) a.slots s) (put_mid y (length a.rows - y) a.rows t) (put_mid z (length a.checkpoints - z) a.checkpoints u) ≡ step (write (each flatten (staged k base es))) a
  unfolding step staged store_past
  parts_staged s t u w =
      rw (
        part_stored a.slots x _ s (omega (arith, r.in_slots, counted_le a.slots)) w.is_slots,
        part_stored a.rows y _ t (omega (arith, r.in_rows, counted_le a.rows)) w.is_rows,
        part_stored a.checkpoints z _ u (omega (arith, r.in_checkpoints, counted_le a.checkpoints)) w.is_checkpoints,
        ex,
        ey,
        ez,
      ) refl
