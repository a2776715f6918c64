-- The pass over the records against what loc_calls says of a sound index: how it begins, one record more, and how it ends.
-- A record that lacks its row, a row that is not wanted, a sum past 2^64 or a checkpoint that differs makes the whole index unsound.
use Rattle.std.specs.Prelude.{Option, Some, None}
use Rattle.std.specs.Option.{is_some, is_none}
use Prim.Native.Nat.{ℕ, zero, suc, ◌+◌, ◌-◌, ◌*◌, ◌/◌, ◌%◌, ◌^◌, ◌≤◌, ◌<◌}
use mathlib.Core.Path.{◌≡◌, refl, sym, ap, ◌∙◌, subst}
use mathlib.Core.Logic.{◌⊎◌, inl, inr}
use mathlib.Core.Bool.{Bool, true, false, not, cond, ◌&&◌, and-false, false≢true}
use mathlib.Core.List.{List}
use native.Mathlib.Nat.{zero-add, add-zero}
use native.Mathlib.Numerals.{add-one}
use native.Mathlib.Omega.{arith}
use native.Mathlib.Decide.{dec_le}
use lib.Dec.{ltb, eqb}
use lib.ListN.{length, take}
use borrow.Author.Tests.{lt-ltb, le-ltb, le-leb, ltb-true, ltb-false, eqb-true, eqb-false}
use Rattle.loc_leaf.specs.declared.Kind.{Kind}
use Rattle.loc_leaf.specs.declared.Kind.TheVariants.{Paired, Single}
use Rattle.loc_leaf.specs.declared.Value.{Value}
use Rattle.loc_leaf.specs.Bytes.{Bytes}
use Rattle.loc_leaf.specs.Area.{counted, fill}
use Rattle.loc_leaf.specs.Kind.{row_width, checkpoint_width}
use Rattle.loc_leaf.specs.Slot.{needs_row, inline, slot_at}
use Rattle.loc_leaf.specs.Rows.{row_value, has_row, row_list, lookup, slot_value, ascending, value_in}
use Rattle.loc_leaf.proofs.Booleans.{is?}
use Rattle.loc_calls.specs.Areas.{Areas, count}
use Rattle.loc_calls.specs.Reading.{sum_after, all_after, lookup_at, has, value_at, strides_after, spans_after, window_end}
use Rattle.loc_calls.specs.Audit.{body_end_after, span_end_after, both_ends, checkpoint_sound, row_fits, row_wanted, rows_sound, sound}
use Rattle.loc_calls.proofs.Reading.{all_fails}
use Rattle.loc_rows.specs.declared.Row.{Row}
use Rattle.loc_rows.specs.Reader.{row_at, rows_from}
use Rattle.loc_rows.proofs.ReaderLaws.{row_none, rows_lent}
use Rattle.loc_audit.specs.declared.Ends.{Ends}
use Rattle.loc_audit.specs.Pass.{own_value, place_after, slot_says, added, valued, record_step, checkpoint_is, checkpoint_holds, tested, ends_after, Auditable}
use Rattle.loc_audit.proofs.RowPassLaws.{Left, own_wanted, sound_from, Turn, turn, rows_left}

-- ---- over the numbers from 1 on

all_next : (f : ℕ → Bool) (n : ℕ) → all_after f 0 n ≡ true → f (suc n) ≡ true → all_after f 0 (suc n) ≡ true
unfolding all_after
all_next f n a h = rw (a, zero-add (suc n), h) refl

sum_grows : (f : ℕ → ℕ) (m n d : ℕ) → sum_after f m n ≤ sum_after f m (n + d)
unfolding sum_after
sum_grows f m n zero = rw (add-zero n) (omega arith)
sum_grows f m n (suc d) = let q : n + suc d ≡ suc (n + d) = omega arith in rw q (omega (arith, sum_grows f m n d))

-- ---- what makes an index unsound

-- a conjunction of four with a part that fails
fails_second : (x y z t : Bool) → y ≡ false → (x && y && z && t) ≡ false
fails_second x y z t e = rw (e, and-false x) refl

fails_third : (x y z t : Bool) → z ≡ false → (x && y && z && t) ≡ false
fails_third x y z t e = rw (e, and-false (x && y)) refl

fails_fourth : (x y z t : Bool) → t ≡ false → (x && y && z && t) ≡ false
fails_fourth x y z t e = rw e (and-false (x && y && z))

module _ (k : Kind) (a : Areas) where
  abbrev all_have : Bool
  all_have = all_after (λ i. has (lookup_at k a i)) 0 (count a)

  abbrev all_sound : Bool
  all_sound = all_after (checkpoint_sound k a) 0 (fill (checkpoint_width k) a.checkpoints)

  abbrev both_below : Bool
  both_below = both_ends k (ltb (body_end_after k a (count a)) (2 ^ 64)) (ltb (span_end_after k a (count a)) (2 ^ 64))

  abbrev all_wanted : Bool
  all_wanted = rows_sound k a (row_list k a.rows)

  body_grows : (n m : ℕ) → n ≤ m → body_end_after k a n ≤ body_end_after k a m
  unfolding body_end_after strides_after
  body_grows n m h =
      let q : n + (m - n) ≡ m = omega arith in
      subst (λ (i : ℕ). 16 + 8 * sum_after (λ j. (value_at k a j).strides) 0 n ≤ 16 + 8 * sum_after (λ j. (value_at k a j).strides) 0 i) q
      (omega (arith, sum_grows (λ j. (value_at k a j).strides) 0 n (m - n)))

  span_grows : (n m : ℕ) → n ≤ m → span_end_after k a n ≤ span_end_after k a m
  unfolding span_end_after spans_after
  span_grows n m h =
      let q : n + (m - n) ≡ m = omega arith in
      subst (λ (i : ℕ). 16 + 8 * sum_after (λ j. (value_at k a j).spans) 0 n ≤ 16 + 8 * sum_after (λ j. (value_at k a j).spans) 0 i) q
      (omega (arith, sum_grows (λ j. (value_at k a j).spans) 0 n (m - n)))

  module _ (n : ℕ) (h : n < count a) where
    unsound_row : lookup_at k a (suc n) ≡ None → sound k a ≡ false
    unfolding sound has
    unsound_row e = rw (all_fails (λ i. has (lookup_at k a i)) (count a) n h (ap has e)) refl

    unsound_body : 2 ^ 64 ≤ body_end_after k a (suc n) → sound k a ≡ false
    unfolding sound
    unsound_body g = fails_third all_have all_sound both_below all_wanted (ends k (ltb (body_end_after k a (count a)) (2 ^ 64)) (ltb (span_end_after k a (count a)) (2 ^ 64)) past)
      where
        past : ltb (body_end_after k a (count a)) (2 ^ 64) ≡ false
        past = le-ltb (body_end_after k a (count a)) (2 ^ 64) (omega (arith, body_grows (suc n) (count a) h))

        ends : (j : Kind) (x y : Bool) → x ≡ false → both_ends j x y ≡ false
        ends Paired x y e = rw e refl
        ends Single x y e = e

    unsound_span : k ≡ Paired → 2 ^ 64 ≤ span_end_after k a (suc n) → sound k a ≡ false
    unfolding sound
    unsound_span p g = fails_third all_have all_sound both_below all_wanted (ends k p (ltb (body_end_after k a (count a)) (2 ^ 64)) (ltb (span_end_after k a (count a)) (2 ^ 64)) past)
      where
        past : ltb (span_end_after k a (count a)) (2 ^ 64) ≡ false
        past = le-ltb (span_end_after k a (count a)) (2 ^ 64) (omega (arith, span_grows (suc n) (count a) h))

        ends : (j : Kind) → j ≡ Paired → (x y : Bool) → y ≡ false → both_ends j x y ≡ false
        ends Paired q x y e = rw e (and-false x)
        ends Single q x y e = cc

  unsound_checkpoint : (w : ℕ) → w < fill (checkpoint_width k) a.checkpoints → checkpoint_sound k a (suc w) ≡ false → sound k a ≡ false
  unfolding sound
  unsound_checkpoint w h e = fails_second all_have all_sound both_below all_wanted (all_fails (checkpoint_sound k a) (fill (checkpoint_width k) a.checkpoints) w h e)

  unsound_rows : rows_sound k a (row_list k a.rows) ≡ false → sound k a ≡ false
  unfolding sound
  unsound_rows e = fails_fourth all_have all_sound both_below all_wanted e

-- ---- one record's value

-- what a single record says has no spans
single_spans : (a : Areas) (id : ℕ) (v : Value) → lookup_at Single a id ≡ Some v → v.spans ≡ 0
unfolding lookup_at slot_value lookup row_value inline
single_spans a id v e = go (is? (needs_row Single (slot_at a.slots id))) (is? (has_row id (row_list Single a.rows)))
  where
    go : (needs_row Single (slot_at a.slots id) ≡ true) ⊎ (needs_row Single (slot_at a.slots id) ≡ false)
        → (has_row id (row_list Single a.rows) ≡ true) ⊎ (has_row id (row_list Single a.rows) ≡ false) → v.spans ≡ 0
    go (inl t) (inl u) = cc
    go (inl t) (inr u) = cc
    go (inr t) _ = cc

module _ (k : Kind) (a : Areas) (n : ℕ) (v : Value) (e : lookup_at k a (suc n) ≡ Some v) where
  body_more : body_end_after k a (suc n) ≡ body_end_after k a n + 8 * v.strides
  unfolding body_end_after strides_after sum_after value_at value_in
  body_more = rw (zero-add (suc n), e) (omega arith)

  span_more : span_end_after k a (suc n) ≡ span_end_after k a n + 8 * v.spans
  unfolding span_end_after spans_after sum_after value_at value_in
  span_more = rw (zero-add (suc n), e) (omega arith)

-- ---- the pass

-- n records are passed, the reader stands at this place, and these are the ends
pub record Passed (k : Kind) (a : Areas) (xs : Bytes) (n at : ℕ) (e : Ends) : Type 0 where
  pub complete : all_after (λ i. has (lookup_at k a i)) 0 n ≡ true
  pub checked : all_after (checkpoint_sound k a) 0 (n / 1024) ≡ true
  pub is_body : e.body ≡ body_end_after k a n
  pub is_span : e.span ≡ span_end_after k a n
  pub body_low : e.body < 2 ^ 64
  pub span_low : e.span < 2 ^ 64
  pub left : Left k (row_list k a.rows) xs n at
  pub rest : rows_sound k a (row_list k a.rows) ≡ sound_from k a xs at

-- n records are passed, or the index is unsound
abbrev pub Stepped : Kind → Areas → Bytes → ℕ → ℕ → Option Ends → Type 0
Stepped k a xs n at (Some e) = Passed k a xs n at e
Stepped k a xs n at None = sound k a ≡ false

pub pass_begins : (k : Kind) (a : Areas) (end : ℕ) → Auditable k a → end ≡ counted a.rows → end ≤ length a.rows → Passed k a (take end a.rows) 0 16 (record { body = 16; span = 16 })
unfolding all_after body_end_after span_end_after strides_after spans_after sum_after
pass_begins k a end g e h =
    record {
      complete = refl;
      checked = refl;
      is_body = refl;
      is_span = refl;
      body_low = omega arith;
      span_low = omega arith;
      left = record { same = λ id l. ap (lookup k id) (sym lent); rise = ap (ascending 0) lent ∙ g.ascend };
      rest = ap (rows_sound k a) (sym lent);
    }
  where
    lent : rows_from (row_width k) (take end a.rows) 16 ≡ row_list k a.rows
    lent = rows_lent k a.rows (row_width k) end refl e h

pass_ends : (k : Kind) (a : Areas) (xs : Bytes) (n at : ℕ) (e : Ends) → Auditable k a → n ≡ count a → Passed k a xs n at e → sound k a ≡ is_none (row_at (row_width k) xs at)
unfolding sound
pass_ends k a xs n at e g q w =
    rw (
      g.checkpointed,
      w.rest ∙ rows_left k a (row_list k a.rows) xs at (subst (λ (i : ℕ). Left k (row_list k a.rows) xs i at) q w.left),
      ← q,
      w.complete,
      w.checked,
      ← w.is_body,
      ← w.is_span,
      lt-ltb e.body (2 ^ 64) w.body_low,
      lt-ltb e.span (2 ^ 64) w.span_low,
      both k,
    ) refl
  where
    both : (j : Kind) → both_ends j true true ≡ true
    both Paired = refl
    both Single = refl

-- a checkpoint is sound where it says the ends after its record
checkpoint_is_lem : (k : Kind) (a : Areas) (w : ℕ) (e : Ends) → e.body ≡ body_end_after k a (1024 * suc w) → e.span ≡ span_end_after k a (1024 * suc w) → 1024 * suc w ≤ count a
    → checkpoint_sound k a (suc w) ≡ checkpoint_is k a.checkpoints (suc w) e
unfolding checkpoint_sound window_end checkpoint_is
checkpoint_is_lem k a w e eb es h = rw (le-leb (1024 * suc w) (count a) h, eb, es) refl

module _ (k : Kind) (a : Areas) (xs : Bytes) (n at : ℕ) (e : Ends) (g : Auditable k a) (h : n < count a) (w : Passed k a xs n at e) where
  abbrev rs : List Bytes
  rs = row_list k a.rows

  abbrev slot : Bytes
  slot = slot_at a.slots (suc n)

  abbrev row : Option Row
  row = row_at (row_width k) xs at

  abbrev next : ℕ
  next = place_after (row_width k) row (suc n) at

  there : Turn k a rs xs n at h w.left row next
  there = turn k a rs xs n at h w.left

  -- the row at the reader's place is the one that loc_calls looks up
  looks : record_step k a.slots (suc n) (own_value row (suc n)) e ≡ valued e (slot_says k slot (lookup k (suc n) rs))
  unfolding record_step
  looks = ap (λ (l : Option Value). valued e (slot_says k slot l)) there.own

  -- with it, what is left to test of the rows
  rests : (l : Option Value) → lookup k (suc n) rs ≡ l → rows_sound k a rs ≡ (own_wanted k slot l && sound_from k a xs next)
  rests l q = w.rest ∙ there.rest ∙ ap (λ (x : Option Value). own_wanted k slot x && sound_from k a xs next) q

  module _ (v : Value) (found : lookup_at k a (suc n) ≡ Some v) (on : rows_sound k a rs ≡ sound_from k a xs next) where
    abbrev after : Ends
    after = record { body = e.body + 8 * v.strides; span = e.span + 8 * v.spans }

    body_is : e.body + 8 * v.strides ≡ body_end_after k a (suc n)
    body_is = omega (arith, w.is_body, body_more k a n v found)

    span_is_lem : e.span + 8 * v.spans ≡ span_end_after k a (suc n)
    span_is_lem = omega (arith, w.is_span, span_more k a n v found)

    -- the checkpoints up to this record
    checked_on : checkpoint_holds k a.checkpoints (suc n) after ≡ true → all_after (checkpoint_sound k a) 0 (suc n / 1024) ≡ true
    unfolding checkpoint_holds
    checked_on t = go (is? (eqb (suc n % 1024) 0))
      where
        go : (eqb (suc n % 1024) 0 ≡ true) ⊎ (eqb (suc n % 1024) 0 ≡ false) → all_after (checkpoint_sound k a) 0 (suc n / 1024) ≡ true
        go (inl z) =
            let m : suc n % 1024 ≡ 0 = eqb-true (suc n % 1024) 0 z in
            let q : suc n / 1024 ≡ suc (n / 1024) = omega arith in
            let o : 1024 * suc (n / 1024) ≡ suc n = omega arith in
            let u : checkpoint_is k a.checkpoints (suc n / 1024) after ≡ true = rw z at t in
            rw q
            (all_next (checkpoint_sound k a) (n / 1024) w.checked
            (checkpoint_is_lem k a (n / 1024) after (rw o body_is) (rw o span_is_lem) (omega arith) ∙ ap (λ (i : ℕ). checkpoint_is k a.checkpoints i after) (sym q) ∙ u))
        go (inr z) =
            let m : suc n % 1024 ≡ 0 → ⊥ = eqb-false (suc n % 1024) 0 z in
            let q : suc n / 1024 ≡ n / 1024 = omega arith in
            rw q w.checked

    -- one that differs
    checked_not : checkpoint_holds k a.checkpoints (suc n) after ≡ false → sound k a ≡ false
    unfolding checkpoint_holds
    checked_not t = go (is? (eqb (suc n % 1024) 0))
      where
        go : (eqb (suc n % 1024) 0 ≡ true) ⊎ (eqb (suc n % 1024) 0 ≡ false) → sound k a ≡ false
        go (inl z) =
            let m : suc n % 1024 ≡ 0 = eqb-true (suc n % 1024) 0 z in
            let q : suc n / 1024 ≡ suc (n / 1024) = omega arith in
            let o : 1024 * suc (n / 1024) ≡ suc n = omega arith in
            let u : checkpoint_is k a.checkpoints (suc n / 1024) after ≡ false = rw z at t in
            unsound_checkpoint k a (n / 1024) (omega (arith, g.checkpointed))
            (checkpoint_is_lem k a (n / 1024) after (rw o body_is) (rw o span_is_lem) (omega arith) ∙ ap (λ (i : ℕ). checkpoint_is k a.checkpoints i after) (sym q) ∙ u)
        go (inr z) = let u : true ≡ false = rw z at t in cc

    goes_on_lem : e.body + 8 * v.strides < 2 ^ 64 → e.span + 8 * v.spans < 2 ^ 64 → Stepped k a xs (suc n) next (tested k a.checkpoints (suc n) (Some after))
    unfolding tested has
    goes_on_lem hb hs = go (is? (checkpoint_holds k a.checkpoints (suc n) after))
      where
        go : (checkpoint_holds k a.checkpoints (suc n) after ≡ true) ⊎ (checkpoint_holds k a.checkpoints (suc n) after ≡ false)
            → Stepped k a xs (suc n) next (cond (checkpoint_holds k a.checkpoints (suc n) after) (Some after) None)
        go (inl t) =
            rw t
            (record {
              complete = all_next (λ i. has (lookup_at k a i)) n w.complete (ap has found);
              checked = checked_on t;
              is_body = body_is;
              is_span = span_is_lem;
              body_low = hb;
              span_low = hs;
              left = there.left;
              rest = on;
            })
        go (inr t) = rw t (checked_not t)

    -- spans add up past 2^64 only where paired
    spans_past : 2 ^ 64 ≤ e.span + 8 * v.spans → sound k a ≡ false
    spans_past l = go k refl
      where
        go : (j : Kind) → k ≡ j → sound k a ≡ false
        go Paired q = unsound_span k a n h q (omega (arith, span_is_lem))
        go Single q = absurd (omega (arith, w.span_low, single_spans a (suc n) v (sym (ap (λ (j : Kind). lookup_at j a (suc n)) q) ∙ found)))

    adds : Stepped k a xs (suc n) next (tested k a.checkpoints (suc n) (added e v))
    unfolding added tested
    adds = go (is? (ltb (e.body + 8 * v.strides) (2 ^ 64))) (is? (ltb (e.span + 8 * v.spans) (2 ^ 64)))
      where
        go : (ltb (e.body + 8 * v.strides) (2 ^ 64) ≡ true) ⊎ (ltb (e.body + 8 * v.strides) (2 ^ 64) ≡ false)
            → (ltb (e.span + 8 * v.spans) (2 ^ 64) ≡ true) ⊎ (ltb (e.span + 8 * v.spans) (2 ^ 64) ≡ false)
            → Stepped k a xs (suc n) next (tested k a.checkpoints (suc n) (cond (ltb (e.body + 8 * v.strides) (2 ^ 64) && ltb (e.span + 8 * v.spans) (2 ^ 64)) (Some after) None))
        go (inl b) (inl s) = rw (b, s) (goes_on_lem (ltb-true _ _ b) (ltb-true _ _ s))
        go (inl b) (inr s) = rw (b, s) (spans_past (ltb-false _ _ s))
        go (inr b) _ = rw b (unsound_body k a n h (omega (arith, ltb-false (e.body + 8 * v.strides) (2 ^ 64) b, body_is)))

  -- the record has a row: it is wanted, or the index is unsound
  by_row : (v : Value) → lookup k (suc n) rs ≡ Some v → Stepped k a xs (suc n) next (tested k a.checkpoints (suc n) (valued e (slot_says k slot (Some v))))
  unfolding valued tested slot_says lookup_at slot_value row_wanted own_wanted
  by_row v q = go (is? (needs_row k slot)) (is? (row_fits k slot v))
    where
      go : (needs_row k slot ≡ true) ⊎ (needs_row k slot ≡ false) → (row_fits k slot v ≡ true) ⊎ (row_fits k slot v ≡ false)
          → Stepped k a xs (suc n) next (tested k a.checkpoints (suc n) (valued e (cond (needs_row k slot && row_fits k slot v) (Some v) None)))
      go (inl t) (inl f) = rw (t, f) (adds v (rw (t, q) refl) (rests (Some v) q ∙ rw (t, f) refl))
      go (inl t) (inr f) = rw (t, f) (unsound_rows k a (rests (Some v) q ∙ rw (t, f) refl))
      go (inr t) _ = rw t (unsound_rows k a (rests (Some v) q ∙ rw t refl))

  -- it has none: its slot needs none, or the index is unsound
  by_slot : lookup k (suc n) rs ≡ None → Stepped k a xs (suc n) next (tested k a.checkpoints (suc n) (valued e (slot_says k slot None)))
  unfolding valued tested slot_says lookup_at slot_value own_wanted
  by_slot q = go (is? (needs_row k slot))
    where
      go : (needs_row k slot ≡ true) ⊎ (needs_row k slot ≡ false)
          → Stepped k a xs (suc n) next (tested k a.checkpoints (suc n) (valued e (cond (needs_row k slot) None (Some (inline k slot)))))
      go (inl t) = rw t (unsound_row k a n h (rw (t, q) refl))
      go (inr t) = rw t (adds (inline k slot) (rw t refl) (rests None q))

  pass_turn : Stepped k a xs (suc n) next (ends_after k a.slots a.checkpoints (suc n) (own_value row (suc n)) e)
  unfolding ends_after
  pass_turn = rw looks (go (lookup k (suc n) rs) refl)
    where
      go : (l : Option Value) → lookup k (suc n) rs ≡ l → Stepped k a xs (suc n) next (tested k a.checkpoints (suc n) (valued e (slot_says k slot l)))
      go (Some v) q = by_row v q
      go None q = by_slot q

-- ---- the loop

none_is : (row : Option Row) (b : Bool) → is_some row ≡ not b → b ≡ is_none row
none_is None true e = refl
none_is None false e = cc
none_is (Some r) true e = cc
none_is (Some r) false e = refl

-- the reader goes along; `own` is what the row at its place says of the next record
module _ (k : Kind) (a : Areas) (g : Auditable k a) (xs : Bytes) (n at : ℕ) (e : Ends) (w : Passed k a xs n at e) (row : Option Row) (er : row ≡ row_at (row_width k) xs at)
    (m : ℕ) (em : m ≡ fill 2 a.slots) where
  module _ (h : n < m) (own : Option Value) (eo : own ≡ own_value row (n + 1)) (r : Option Ends) (ee : r ≡ ends_after k a.slots a.checkpoints (n + 1) own e) where
    stepped : Stepped k a xs (n + 1) (place_after (row_width k) row (n + 1) at) r
    unfolding count
    stepped = rw (ee, eo, er, add-one n) (pass_turn k a xs n at e g (omega arith) w)

    pub pass_stops : r ≡ None → false ≡ sound k a
    pass_stops q = sym (subst (Stepped k a xs (n + 1) (place_after (row_width k) row (n + 1) at)) q stepped)

    module _ (after : Ends) (q : r ≡ Some after) where
      passed : Passed k a xs (n + 1) (place_after (row_width k) row (n + 1) at) after
      passed = subst (Stepped k a xs (n + 1) (place_after (row_width k) row (n + 1) at)) q stepped

      -- past a record's own row
      pub pass_on : is_some own ≡ true → Passed k a xs (n + 1) (at + row_width k) after
      unfolding place_after
      pass_on t = let z : is_some (own_value row (n + 1)) ≡ true = ap is_some (sym eo) ∙ t in rw z at passed

      -- else the reader stays
      pub pass_same : is_some own ≡ false → Passed k a xs (n + 1) at after
      unfolding place_after
      pass_same t = let z : is_some (own_value row (n + 1)) ≡ false = ap is_some (sym eo) ∙ t in rw z at passed

  pub pass_done : n ≤ m → m ≤ n → (b : Bool) → is_some row ≡ not b → b ≡ sound k a
  unfolding count
  pass_done l h b eb = none_is row b eb ∙ ap is_none er ∙ sym (pass_ends k a xs n at e g (omega arith) w)

-- a record's own row stands there whole
pub own_inside : (w : ℕ) (xs : Bytes) (at id : ℕ) (row : Option Row) → row ≡ row_at w xs at → (own : Option Value) → own ≡ own_value row id → is_some own ≡ true → at + w ≤ length xs
unfolding own_value
own_inside w xs at id row er own eo t = go (dec_le (at + w) (length xs))
  where
    go : Dec (at + w ≤ length xs) → at + w ≤ length xs
    go (yes h) = h
    go (no h) = absurd (false≢true (ap (λ (x : Option Row). is_some (own_value x id)) (sym (er ∙ row_none w xs at (omega arith))) ∙ ap is_some (sym eo) ∙ t))
