-- What a reading finds in areas that hold a good list whole: every row, and the words of each record.
-- The sums over a window and the checkpoints are sums of the list's lengths.
use Rattle.std.specs.Prelude.{Some, None}
use Prim.Native.Nat.{ℕ, zero, suc, ◌+◌, ◌-◌, ◌*◌, ◌/◌, ◌%◌, ◌^◌, ◌≤◌, ◌<◌}
use mathlib.Core.Path.{◌≡◌, refl, sym, ap, ◌∙◌, subst}
use mathlib.Core.Logic.{◌⊎◌, inl, inr, ⊎_elim}
use mathlib.Core.Bool.{Bool, true, false, cond, not, ◌&&◌, ◌||◌, and-false, or-true}
use mathlib.Core.List.{List, [], ◌∷◌, ◌++◌, append-nil}
use native.Mathlib.Nat.{zero-add, add-zero, add-suc, le_refl, eq-or-lt_of_le, le_of_suc-le-suc, not-suc-le-zero, mul-suc, add-sub_cancel_left}
use native.Mathlib.Omega.{arith}
use lib.Dec.{leb, ltb, eqb}
use lib.ListN.{length, take, drop, get_or, replicate, length-take}
use lib.Seq.{take-take, take-length, length-take-le, take_all, split_at, get_or_at, get_or-take, take-suc}
use borrow.Author.Tests.{eq-eqb, ne_eqb, ltb-true, leb-true}
use Rattle.loc_leaf.specs.declared.Kind.{Kind}
use Rattle.loc_leaf.specs.declared.Kind.TheVariants.{Paired, Single}
use Rattle.loc_leaf.specs.Bytes.{Bytes, bytes, number_at}
use Rattle.loc_leaf.specs.Area.{published}
use Rattle.loc_leaf.specs.Kind.{checkpoint_width}
use Rattle.loc_leaf.specs.Slot.{slot, needs_row, stored_as_zero, slot_at}
use Rattle.loc_leaf.specs.Rows.{row, row_number, row_list, row_for, has_row, lookup, slot_value, value_in}
use Rattle.loc_leaf.proofs.Booleans.{is?, both_left, both_right}
use Rattle.loc_leaf.proofs.Stored.{length_bytes, at_first, at_past}
use Rattle.loc_leaf.proofs.ValueLaws.{Valid, row_number_lem, row_value_lem, needs_row_lem, inline_own}
use Rattle.loc_calls.specs.Areas.{Areas}
use Rattle.loc_calls.specs.Table.{Entry, value_of, saturated, body_after, span_after, word_width, Call, opening, append, truncate, read}
use Rattle.loc_calls.specs.Stores.{checkpoint, gather, row_of, checkpoint_of}
use Rattle.loc_calls.specs.Reading.{sum_after, all_after, lookup_at, has, value_at, strides_after, spans_after, before, checkpoint_at, window_end, looked_at, within, row_missing, any_missing, words, words_for}
use Rattle.loc_calls.specs.Calls.{unread}
use Rattle.loc_calls.proofs.Holds.{holds_published, holds_get}
use Rattle.loc_calls.proofs.Gathered.{slots_of, rows_of, checkpoints_of, ValidEntry, AllValid, valid_at, gather_after, length_slots, length_checkpoints}
use Rattle.loc_calls.proofs.State.{count_is, few, row_list_lem, checkpoint_wide, slot_at_lem}
use Rattle.loc_calls.proofs.Opening.{Full}
use Rattle.loc_calls.proofs.Chains.{lens, spans, lens_append, spans_append, Chained, chained_at, Good, good_take}

-- ---- rows are found

-- all rows are numbered up to m
unfoldable Below : ℕ → List Bytes → Type 0
Below m [] = Unit
Below m (r ∷ rs) = (row_number r ≤ m) × Below m rs

rows_below : (k : Kind) (m n : ℕ) (es : List Entry) → m + length es ≤ n → n < 2 ^ 64 → Below n (gather (row_of k) m es)
unfolding Below gather row_of
rows_below k m n [] h l = tt
rows_below k m n (e ∷ es) h l = go (rows_below k (suc m) n es (omega arith) l) (needs_row k (slot k (value_of e)))
  where
    go : Below n (gather (row_of k) (suc m) es) → (b : Bool) → Below n (cond b (row k (suc m) (value_of e) ∷ []) [] ++ gather (row_of k) (suc m) es)
    go ih true = (omega (arith, row_number_lem k (suc m) (value_of e) (omega arith)), ih)
    go ih false = ih

row_for_lem : (m : ℕ) (rs : List Bytes) (r : Bytes) (ts : List Bytes) → Below m rs → row_number r ≡ suc m → row_for (suc m) (rs ++ (r ∷ ts)) ≡ r
unfolding Below row_for
row_for_lem m [] r ts h e = rw (eq-eqb (row_number r) (suc m) e) refl
row_for_lem m (x ∷ rs) r ts h e = rw (ne_eqb (row_number x) (suc m) (λ z. omega (arith, h.0))) (row_for_lem m rs r ts h.1 e)

has_row_lem : (m : ℕ) (rs : List Bytes) (r : Bytes) (ts : List Bytes) → row_number r ≡ suc m → has_row (suc m) (rs ++ (r ∷ ts)) ≡ true
unfolding has_row
has_row_lem m [] r ts e = rw (eq-eqb (row_number r) (suc m) e) refl
has_row_lem m (x ∷ rs) r ts e = ap (λ (b : Bool). eqb (row_number x) (suc m) || b) (has_row_lem m rs r ts e) ∙ or-true (eqb (row_number x) (suc m))

has_no_row : (m : ℕ) (rs : List Bytes) → Below m rs → has_row (suc m) rs ≡ false
unfolding Below has_row
has_no_row m [] h = refl
has_no_row m (x ∷ rs) h = rw (ne_eqb (row_number x) (suc m) (λ z. omega (arith, h.0))) (has_no_row m rs h.1)

-- a record that needs a row has none among those of the records before it
pub lacks_row : (k : Kind) (es : List Entry) (s : Bytes) → length es < 2 ^ 64 → needs_row k s ≡ true → slot_value k (rows_of k es) (suc (length es)) s ≡ None
unfolding slot_value lookup
lacks_row k es s h t = rw (t, has_no_row (length es) (rows_of k es) (rows_below k 0 (length es) es (omega arith) h)) refl

-- a valid record's slot, with its row among rows of records before and after, says its value
slot_value_lem : (k : Kind) (m : ℕ) (rs : List Bytes) (e : Entry) (ts : List Bytes) → Valid k (value_of e) → suc m < 2 ^ 64 → Below m rs
    → slot_value k (rs ++ (row_of k (suc m) e ++ ts)) (suc m) (slot k (value_of e)) ≡ Some (value_of e)
unfolding slot_value lookup row_of
slot_value_lem k m rs e ts v h b = go (is? (stored_as_zero k (value_of e)))
  where
    own : Bytes
    own = row k (suc m) (value_of e)

    go : (stored_as_zero k (value_of e) ≡ true) ⊎ (stored_as_zero k (value_of e) ≡ false)
        → slot_value k (rs ++ (row_of k (suc m) e ++ ts)) (suc m) (slot k (value_of e)) ≡ Some (value_of e)
    go (inl t) =
        rw (
          needs_row_lem k (value_of e) v,
          t,
          has_row_lem m rs own ts (row_number_lem k (suc m) (value_of e) h),
          row_for_lem m rs own ts b (row_number_lem k (suc m) (value_of e) h),
          row_value_lem k (suc m) (value_of e) v,
        ) refl
    go (inr t) = rw (needs_row_lem k (value_of e) v, t, inline_own k (value_of e) v t) refl

-- ---- over the n numbers that follow m

pub all_are : (f : ℕ → Bool) (m n : ℕ) → ((i : ℕ) → i < m + n → f (suc i) ≡ true) → all_after f m n ≡ true
unfolding all_after
all_are f m zero h = refl
all_are f m (suc n) h = rw (all_are f m n (λ i q. h i (omega arith)), add-suc m n, h (m + n) (omega arith)) refl

-- one of those from 1 on fails
pub all_fails : (f : ℕ → Bool) (n i : ℕ) → i < n → f (suc i) ≡ false → all_after f 0 n ≡ false
unfolding all_after
all_fails f zero i h e = absurd (not-suc-le-zero h)
all_fails f (suc n) i h e =
    ⊎_elim
    (λ (q : i ≡ n). rw (zero-add (suc n)) (ap (λ (b : Bool). all_after f 0 n && b) (ap (λ (j : ℕ). f (suc j)) (sym q) ∙ e) ∙ and-false (all_after f 0 n)))
    (λ (l : i < n). ap (λ (b : Bool). b && f (0 + suc n)) (all_fails f n i l e))
    (eq-or-lt_of_le (le_of_suc-le-suc h))

-- ---- one record

abbrev pub none : Entry
none = record { start = 0; len = 0; span_start = 0; spans = 0 }

-- the words of a record that starts where it says
unfoldable pub entry_words : Kind → Entry → List ℕ
entry_words Paired e = 1 ∷ e.start ∷ e.len ∷ e.span_start ∷ 8 * e.spans ∷ e.spans ∷ []
entry_words Single e = 1 ∷ e.start ∷ e.len ∷ []

-- the sums with one more record
module _ (E : List Entry) (i : ℕ) (h : i < length E) where
  lens_suc : lens (take (suc i) E) ≡ lens (take i E) + (get_or E i none).len
  unfolding lens
  lens_suc = ap lens (take-suc E i none h) ∙ lens_append (take i E) (get_or E i none ∷ []) ∙ omega arith

  spans_suc : spans (take (suc i) E) ≡ spans (take i E) + (get_or E i none).spans
  unfolding spans
  spans_suc = ap spans (take-suc E i none h) ∙ spans_append (take i E) (get_or E i none ∷ []) ∙ omega arith

  starts_at_lem : Chained 16 16 E → ((get_or E i none).start ≡ 16 + lens (take i E)) × ((get_or E i none).span_start ≡ 16 + 8 * spans (take i E))
  starts_at_lem c = chained_at 16 16 (take i E) (get_or E i none) (drop (suc i) E) (subst (Chained 16 16) (split_at E i none h) c)

-- ---- areas that hold a list whole

module _ (k : Kind) (a : Areas) (E : List Entry) (s : Full k a E) where
  pub rows_are : row_list k a.rows ≡ rows_of k E
  rows_are = row_list_lem k a E _ _ s ∙ take-length (rows_of k E)

  pub slots_are : published 2 a.slots ≡ slots_of k E
  slots_are = holds_published 2 a.slots (slots_of k E) (length E) s.slots (omega arith) ∙ take_all (length E) (slots_of k E) (omega (arith, length_slots k 0 E))

  all_checkpoints : take (length E / 1024) (checkpoints_of k E) ≡ checkpoints_of k E
  all_checkpoints = take_all (length E / 1024) (checkpoints_of k E) (omega (arith, length_checkpoints k E))

  pub checkpoints_are : published (checkpoint_width k) a.checkpoints ≡ checkpoints_of k E
  checkpoints_are =
      holds_published (checkpoint_width k) a.checkpoints (take (length E / 1024) (checkpoints_of k E)) (length E / 1024) s.checkpoints (checkpoint_wide k)
      ∙ take-take (length E / 1024) (length E / 1024) (checkpoints_of k E) (le_refl (length E / 1024))
      ∙ all_checkpoints

  module _ (i : ℕ) (h : i < length E) where
    abbrev e : Entry
    e = get_or E i none

    split : E ≡ take i E ++ (e ∷ drop (suc i) E)
    split = split_at E i none h

    here : length (take i E) ≡ i
    here = length-take-le i E (omega arith)

    e_valid : ValidEntry k e
    e_valid = valid_at k (take i E) e (drop (suc i) E) (subst (AllValid k) split s.valid)

    slot_is : slot_at a.slots (suc i) ≡ slot k (value_of e)
    slot_is = rw here at (slot_at_lem k a E _ _ s (take i E) e (drop (suc i) E) split)

    -- the rows of the first n records, of which it is one
    rows_split : (n : ℕ) → i < n → rows_of k (take n E) ≡ rows_of k (take i E) ++ (row_of k (suc i) e ++ gather (row_of k) (suc i) (drop (suc i) (take n E)))
    unfolding gather
    rows_split n g = ap (gather (row_of k) 0) first ∙ rw here at (gather_after (row_of k) (take i E) (e ∷ drop (suc i) (take n E)))
      where
        first : take n E ≡ take i E ++ (e ∷ drop (suc i) (take n E))
        first = rw (take-take i n E (omega arith), get_or-take n E i none g) at (split_at (take n E) i none (rw (length-take n E) (omega arith)))

    -- slot and row say the record's value
    pub among_first : (n : ℕ) → i < n → slot_value k (rows_of k (take n E)) (suc i) (slot_at a.slots (suc i)) ≡ Some (value_of e)
    among_first n g =
        rw (rows_split n g, slot_is)
        (slot_value_lem k i (rows_of k (take i E)) e (gather (row_of k) (suc i) (drop (suc i) (take n E))) e_valid.value (omega (arith, few k a E _ _ s))
        (rows_below k 0 i (take i E) (omega (arith, here)) (omega (arith, few k a E _ _ s))))

    pub lookup_is : lookup_at k a (suc i) ≡ Some (value_of e)
    unfolding lookup_at
    lookup_is = rw rows_are (rw (take-length E) at (among_first (length E) h))

    value_is : value_at k a (suc i) ≡ value_of e
    unfolding value_at value_in
    value_is = rw lookup_is refl

    strides_are : 8 * (e.len / 8) ≡ e.len
    strides_are = omega (arith, e_valid.whole)

  -- ---- no row is missing

  pub all_there : (m n : ℕ) → m + n ≤ length E → all_after (λ i. has (lookup_at k a i)) m n ≡ true
  all_there m n h = all_are (λ i. has (lookup_at k a i)) m n (λ i q. unfold has in (rw (lookup_is i (omega arith)) refl))

  looked_inside : (k : Kind) (id : ℕ) → within (length E) id ≡ true → before id + looked_at k (length E) id ≤ length E
  unfolding within looked_at
  looked_inside Paired id t = omega (arith, leb-true id (length E) (both_right (ltb 0 id) (leb id (length E)) t), ltb-true 0 id (both_left (ltb 0 id) (leb id (length E)) t))
  looked_inside Single id t = omega (arith, leb-true id (length E) (both_right (ltb 0 id) (leb id (length E)) t), ltb-true 0 id (both_left (ltb 0 id) (leb id (length E)) t))

  pub missing_none : (id : ℕ) → row_missing k a id ≡ false
  unfolding row_missing
  missing_none id = rw (count_is k a E _ _ s) (go (is? (within (length E) id)))
    where
      go : (within (length E) id ≡ true) ⊎ (within (length E) id ≡ false) → (within (length E) id && not (all_after (λ i. has (lookup_at k a i)) (before id) (looked_at k (length E) id))) ≡ false
      go (inl t) = rw (t, all_there (before id) (looked_at k (length E) id) (looked_inside k id t)) refl
      go (inr t) = rw t refl

  pub none_missing : (ids : List ℕ) → any_missing k a ids ≡ false
  unfolding any_missing
  none_missing [] = refl
  none_missing (id ∷ ids) = rw (missing_none id) (none_missing ids)

  -- 17 never comes
  pub none_unread : (c : Call) → unread k a c ≡ false
  unfolding unread
  none_unread opening = refl
  none_unread (append b) = refl
  none_unread (truncate w) = refl
  none_unread (read ids out) = none_missing ids

  -- ---- sums

  pub strides_sum : (m n : ℕ) → m + n ≤ length E → 8 * strides_after k a m n + lens (take m E) ≡ lens (take (m + n) E)
  unfolding strides_after sum_after value_of
  strides_sum m zero h = rw (add-zero m) (omega arith)
  strides_sum m (suc n) h =
      rw (add-suc m n, value_is (m + n) (omega arith))
      (omega (arith, strides_sum m n (omega arith), lens_suc E (m + n) (omega arith), strides_are (m + n) (omega arith)))

  pub spans_sum : (m n : ℕ) → m + n ≤ length E → spans_after k a m n + spans (take m E) ≡ spans (take (m + n) E)
  unfolding spans_after sum_after value_of
  spans_sum m zero h = rw (add-zero m) (omega arith)
  spans_sum m (suc n) h =
      rw (add-suc m n, value_is (m + n) (omega arith))
      (omega (arith, spans_sum m n (omega arith), spans_suc E (m + n) (omega arith)))

-- ---- windows

-- a checkpoint's numbers read back
at_body : (k : Kind) (e : Entry) → body_after e < 2 ^ 64 → number_at 8 0 (checkpoint k e) ≡ body_after e
unfolding checkpoint
at_body Paired e q = at_first 8 (body_after e) (bytes 8 (span_after e)) q
at_body Single e q = rw (append-nil (bytes 8 (body_after e))) at (at_first 8 (body_after e) [] q)

at_span : (e : Entry) → span_after e < 2 ^ 64 → number_at 8 8 (checkpoint Paired e) ≡ span_after e
unfolding checkpoint
at_span e q =
    at_past 8 8 (bytes 8 (body_after e)) (bytes 8 (span_after e)) (length_bytes 8 (body_after e))
    ∙ rw (append-nil (bytes 8 (span_after e))) at (at_first 8 (span_after e) [] q)

module _ (k : Kind) (a : Areas) (E : List Entry) (s : Full k a E) (g : Good E) where
  -- the checkpoint after record 1,024 × (w + 1)
  module _ (w : ℕ) (h : 1024 * suc w ≤ length E) where
    abbrev i : ℕ
    i = 1024 * w + 1023

    abbrev last : Entry
    last = get_or E i none

    i_inside : i < length E
    i_inside = omega arith

    checkpoint_is_lem : checkpoint_at k a.checkpoints (suc w) ≡ checkpoint k last
    unfolding checkpoint_at gather checkpoint_of
    checkpoint_is_lem =
        ap (λ (j : ℕ). take (checkpoint_width k) (drop (16 + checkpoint_width k * j) a.checkpoints)) (one_less w)
        ∙ holds_get (checkpoint_width k) a.checkpoints (take (length E / 1024) (checkpoints_of k E)) (length E / 1024) s.checkpoints w (rw (all_checkpoints k a E s, length_checkpoints k E) (omega arith))
        ∙ ap (λ (l : List Bytes). get_or l w []) (all_checkpoints k a E s ∙ ap (gather (checkpoint_of k) 0) (split_at E i none i_inside) ∙ gather_after (checkpoint_of k) (take i E) (last ∷ drop (suc i) E) ∙ ap (λ (l : List Bytes). checkpoints_of k (take i E) ++ l) one)
        ∙ get_or_at (checkpoints_of k (take i E)) (checkpoint k last) (gather (checkpoint_of k) (suc i) (drop (suc i) E)) [] w (length_checkpoints k (take i E) ∙ omega (arith, here'))
      where
        one_less : (n : ℕ) → suc n - 1 ≡ n
        one_less n = omega arith

        here' : length (take i E) ≡ i
        here' = length-take-le i E (omega arith)

        one : gather (checkpoint_of k) (length (take i E)) (last ∷ drop (suc i) E) ≡ checkpoint k last ∷ gather (checkpoint_of k) (suc i) (drop (suc i) E)
        one = rw (here', eq-eqb (suc i % 1024) 0 (omega arith)) refl

    window_sums : (lens (take (1024 * suc w) E) ≡ lens (take i E) + last.len) × (spans (take (1024 * suc w) E) ≡ spans (take i E) + last.spans)
    window_sums = (ap (λ (j : ℕ). lens (take j E)) next ∙ lens_suc E i i_inside, ap (λ (j : ℕ). spans (take j E)) next ∙ spans_suc E i i_inside)
      where
        next : 1024 * suc w ≡ suc i
        next = omega (arith, mul-suc 1024 w)

    body_after_lem : body_after last ≡ 16 + lens (take (1024 * suc w) E)
    unfolding body_after
    body_after_lem = omega (arith, (starts_at_lem E i i_inside g.chained).0, window_sums.0, (good_take (1024 * suc w) E g).body)

    span_after_lem : span_after last ≡ 16 + 8 * spans (take (1024 * suc w) E)
    unfolding span_after
    span_after_lem = omega (arith, (starts_at_lem E i i_inside g.chained).1, window_sums.1, (good_take (1024 * suc w) E g).span)

  pub body_window : (w : ℕ) → 1024 * w ≤ length E → window_end k a 0 w ≡ 16 + lens (take (1024 * w) E)
  unfolding window_end lens
  body_window zero h = refl
  body_window (suc w) h =
      ap (number_at 8 0) (checkpoint_is_lem w h) ∙ at_body k (last w h) (omega (arith, body_after_lem w h, (good_take (1024 * suc w) E g).body)) ∙ body_after_lem w h

-- where paired
pub span_window : (a : Areas) (E : List Entry) → Full Paired a E → Good E → (w : ℕ) → 1024 * w ≤ length E → window_end Paired a 8 w ≡ 16 + 8 * spans (take (1024 * w) E)
unfolding window_end spans
span_window a E s g zero h = refl
span_window a E s g (suc w) h =
    ap (number_at 8 8) (checkpoint_is_lem Paired a E s g w h)
    ∙ at_span (last Paired a E s g w h) (omega (arith, span_after_lem Paired a E s g w h, (good_take (1024 * suc w) E g).span))
    ∙ span_after_lem Paired a E s g w h

-- ---- the words of a record

module _ (k : Kind) (a : Areas) (E : List Entry) (s : Full k a E) (g : Good E) (i : ℕ) (h : i < length E) where
  window_parts : 1024 * (i / 1024) + i % 1024 ≡ i
  window_parts = omega arith

  body_is : window_end k a 0 (i / 1024) + 8 * strides_after k a (1024 * (i / 1024)) (i % 1024) ≡ (get_or E i none).start
  body_is =
      omega (
        arith,
        body_window k a E s g (i / 1024) (omega arith),
        strides_sum k a E s (1024 * (i / 1024)) (i % 1024) (omega arith),
        ap (λ (j : ℕ). lens (take j E)) window_parts,
        (starts_at_lem E i h g.chained).0,
      )

  -- record i's start and end are below 2^64
  start_fits : (get_or E i none).start + (get_or E i none).len < 2 ^ 64
  start_fits = omega (arith, (starts_at_lem E i h g.chained).0, lens_suc E i h, (good_take (suc i) E g).body)

  span_fits : (get_or E i none).span_start < 2 ^ 64
  span_fits = omega (arith, (starts_at_lem E i h g.chained).1, (good_take i E g).span)

span_is_lem : (a : Areas) (E : List Entry) → Full Paired a E → Good E → (i : ℕ) → i < length E
    → window_end Paired a 8 (i / 1024) + 8 * spans_after Paired a (1024 * (i / 1024)) (i % 1024) ≡ (get_or E i none).span_start
span_is_lem a E s g i h =
    omega (
      arith,
      span_window a E s g (i / 1024) (omega arith),
      spans_sum Paired a E s (1024 * (i / 1024)) (i % 1024) (omega arith),
      ap (λ (j : ℕ). spans (take j E)) (window_parts Paired a E s g i h),
      (starts_at_lem E i h g.chained).1,
    )

saturated_is : (v : ℕ) → v < 2 ^ 64 → saturated v ≡ v
saturated_is v h = omega arith

words_there : (k : Kind) (a : Areas) (E : List Entry) → Full k a E → Good E → (i : ℕ) → i < length E
    → words k (window_end k a 0 (i / 1024) + 8 * strides_after k a (1024 * (i / 1024)) (i % 1024)) (window_end k a 8 (i / 1024) + 8 * spans_after k a (1024 * (i / 1024)) (i % 1024)) (value_at k a (suc i))
    ≡ entry_words k (get_or E i none)
unfolding words entry_words value_of
words_there Paired a E s g i h =
    rw (
      body_is Paired a E s g i h,
      span_is_lem a E s g i h,
      value_is Paired a E s i h,
      strides_are Paired a E s i h,
      saturated_is (get_or E i none).start (omega (arith, start_fits Paired a E s g i h)),
      saturated_is (get_or E i none).span_start (span_fits Paired a E s g i h),
    ) refl
words_there Single a E s g i h =
    rw (
      body_is Single a E s g i h,
      value_is Single a E s i h,
      strides_are Single a E s i h,
      saturated_is ((get_or E i none).start + (get_or E i none).len) (start_fits Single a E s g i h),
      saturated_is (get_or E i none).start (omega (arith, start_fits Single a E s g i h)),
      add-sub_cancel_left (get_or E i none).start (get_or E i none).len,
    ) refl

-- a reading gives each record's words
pub words_are : (k : Kind) (a : Areas) (E : List Entry) → Full k a E → Good E → (id : ℕ)
    → words_for k a id ≡ cond (within (length E) id) (entry_words k (get_or E (id - 1) none)) (replicate (word_width k) 0)
unfolding words_for
words_are k a E s g zero = rw (count_is k a E _ _ s) (unfold within in refl)
words_are k a E s g (suc i) = rw (count_is k a E _ _ s, one_less i) (go (is? (within (length E) (suc i))))
  where
    one_less : (n : ℕ) → suc n - 1 ≡ n
    one_less n = omega arith

    there : List ℕ
    there = words k (window_end k a 0 (i / 1024) + 8 * strides_after k a (1024 * (i / 1024)) (i % 1024)) (window_end k a 8 (i / 1024) + 8 * spans_after k a (1024 * (i / 1024)) (i % 1024)) (value_at k a (suc i))

    go : (within (length E) (suc i) ≡ true) ⊎ (within (length E) (suc i) ≡ false)
        → cond (within (length E) (suc i)) there (replicate (word_width k) 0) ≡ cond (within (length E) (suc i)) (entry_words k (get_or E i none)) (replicate (word_width k) 0)
    go (inl q) = rw q (words_there k a E s g i (unfold within in leb-true (suc i) (length E) (both_right (ltb 0 (suc i)) (leb (suc i) (length E)) q)))
    go (inr q) = rw q refl
