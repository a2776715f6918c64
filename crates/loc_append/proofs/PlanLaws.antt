-- What an append decides before it stores, in the form in which the code meets it: 13, the ends, and the whole plan.
-- The stage that is decided has the places of loc_calls.
use Prim.Native.Nat.{ℕ, zero, suc, ◌+◌, ◌*◌, ◌/◌, ◌^◌, ◌≤◌, ◌<◌}
use mathlib.Core.Path.{◌≡◌, refl, sym, ap, ◌∙◌}
use mathlib.Core.Bool.{Bool, true, false, not, true≢false, false≢true}
use mathlib.Core.List.{List, [], ◌∷◌, flatten}
use native.Mathlib.Nat.{add-zero, zero-add}
use native.Mathlib.Omega.{arith}
use lib.Dec.{ltb}
use lib.ListN.{length, get_or, replicate, length-replicate, get_or-replicate}
use Rattle.std.specs.Prelude.{Result, Ok, Err}
use Rattle.loc_leaf.specs.declared.Kind.{Kind}
use Rattle.loc_leaf.specs.declared.Kind.TheVariants.{Paired, Single}
use Rattle.loc_leaf.specs.declared.refusal.Refusal.{Refusal}
use Rattle.loc_leaf.specs.declared.refusal.Refusal.TheVariants.{ListsDiffer}
use Rattle.loc_leaf.specs.Answers.{refuse, ◌or_else◌, number_of, refusal_of}
use Rattle.loc_leaf.specs.Bytes.{Bytes}
use Rattle.loc_leaf.specs.Area.{counted}
use Rattle.loc_leaf.specs.Kind.{row_width, checkpoint_width}
use Rattle.loc_leaf.proofs.Refusals.{or_else_first, or_else_assoc, refuse_zero, number_some}
use Rattle.loc_leaf.proofs.AreaLaws.{counted_le, length_flatten}
use Rattle.loc_calls.specs.Areas.{Areas, sizes, count}
use Rattle.loc_calls.specs.Table.{Entry, Batch, append, zipped, entries, uneven, entries_refusal, start_refusal, end_past, batch_refusal, table}
use Rattle.loc_calls.specs.Stores.{gather, slot_of, row_of, checkpoint_of, staged, new_end, new_ends}
use Rattle.loc_calls.specs.Reading.{end_read}
use Rattle.loc_calls.specs.Calls.{table_of}
use Rattle.loc_calls.proofs.Batches.{Fits, batch_tested, batch_fits}
use Rattle.loc_calls.proofs.Gathered.{widths_slots, widths_rows, widths_checkpoints, length_slots, length_checkpoints_from}
use Rattle.loc_store.specs.declared.Lengths.{Lengths}
use Rattle.loc_store.specs.declared.Checked.{Checked}
use Rattle.loc_store.specs.Areas.{EndsOf, Finds}
use Rattle.loc_batch.specs.Lists.{entry_at, as_entry, listed, batched, Held, row_total, Tested}
use Rattle.loc_batch.proofs.EntryLaws.{starts_even, spans_even}
use Rattle.loc_batch.proofs.BatchLaws.{length_listed, rows_staged}
use Rattle.loc_append.specs.Plans.{TestedOn, windows, reached, EndReached, Reaches, Ready, RoomPast, Planned}
use Rattle.loc_batch.specs.declared.Record.{Record}
use Rattle.loc_append.specs.declared.Stage.{Stage}

-- ---- the ends that are reached

-- what is given for a test is a refusal where the test holds
held_is : (b : Bool) (x : Refusal) → number_of x ≡ refuse b 13 → b ≡ true
held_is true x h = refl
held_is false x h = absurd (number_some x h)

module _ (k : Kind) (a : Areas) (o : Checked) (q : Finds k a o) where
  pub slots_inside : o.ends.slots ≤ length a.slots
  slots_inside = omega (arith, q.ends.slots, counted_le a.slots)

  pub rows_inside : o.ends.rows ≤ length a.rows
  rows_inside = omega (arith, q.ends.rows, counted_le a.rows)

  pub checkpoints_inside : o.ends.checkpoints ≤ length a.checkpoints
  checkpoints_inside = omega (arith, q.ends.checkpoints, counted_le a.checkpoints)

  module _ (n r : ℕ) where
    pub reach_slots : (x : Refusal) → EndReached (length a.slots) (o.ends.slots + 2 * n) (Err x) → Reaches k a o n r (Err x)
    unfolding reached
    reach_slots x e = let t = held_is (ltb (length a.slots) (o.ends.slots + 2 * n)) x e.number in record { number = e.number ∙ rw t refl; stage = tt }

    module _ (slots : ℕ) (es : EndReached (length a.slots) (o.ends.slots + 2 * n) (Ok slots)) (w : ℕ) (ew : w ≡ row_width k) where
      in_slots : ltb (length a.slots) (o.ends.slots + 2 * n) ≡ false
      in_slots = refuse_zero _ 12 (sym es.number)

      pub reach_rows : (x : Refusal) → EndReached (length a.rows) (o.ends.rows + w * r) (Err x) → Reaches k a o n r (Err x)
      unfolding reached
      reach_rows x e = let t = held_is (ltb (length a.rows) (o.ends.rows + w * r)) x e.number in record { number = e.number ∙ rw (in_slots, ← ew, t) refl; stage = tt }

      module _ (rows : ℕ) (er : EndReached (length a.rows) (o.ends.rows + w * r) (Ok rows)) (v m : ℕ) (ev : v ≡ checkpoint_width k) (em : m ≡ windows o.count n) where
        in_rows : ltb (length a.rows) (o.ends.rows + w * r) ≡ false
        in_rows = refuse_zero _ 12 (sym er.number)

        pub reach_checkpoints : (x : Refusal) → EndReached (length a.checkpoints) (o.ends.checkpoints + v * m) (Err x) → Reaches k a o n r (Err x)
        unfolding reached
        reach_checkpoints x e =
            let t = held_is (ltb (length a.checkpoints) (o.ends.checkpoints + v * m)) x e.number in
            record { number = e.number ∙ rw (in_slots, ← ew, in_rows, ← ev, ← em, t) refl; stage = tt }

        pub reach_done : (checkpoints : ℕ) → EndReached (length a.checkpoints) (o.ends.checkpoints + v * m) (Ok checkpoints) → length a.slots < 2 ^ 64
            → Reaches k a o n r (Ok (record { base = o.count; old = o.ends; new = record { slots = slots; rows = rows; checkpoints = checkpoints } }))
        unfolding reached
        reach_done checkpoints e l = record {
          number = e.number ∙ rw (in_slots, ← ew, in_rows, ← ev, ← em) refl;
          stage = (rw (es.inside.0, er.inside.0, e.inside.0, ew, ev, em) refl, omega (arith, q.room, es.inside.1));
        }

-- ---- the entries of a batch, by place

zipped_listed : (ss ls ps cs : List ℕ) (f : ℕ → Entry) (i : ℕ) → length ss ≡ length ls → length ps ≡ length ls → length cs ≡ length ls
    → ((j : ℕ) → j < length ls → f (i + j) ≡ record { start = get_or ss j 0; len = get_or ls j 0; span_start = get_or ps j 0; spans = get_or cs j 0 })
    → zipped ss ls ps cs ≡ listed f i (length ls)
unfolding zipped listed
zipped_listed [] [] ps cs f i x y z h = refl
zipped_listed [] (l ∷ ls) ps cs f i x y z h = absurd (omega (arith, x))
zipped_listed (s ∷ ss) [] ps cs f i x y z h = absurd (omega (arith, x))
zipped_listed (s ∷ ss) (l ∷ ls) [] cs f i x y z h = absurd (omega (arith, y))
zipped_listed (s ∷ ss) (l ∷ ls) (p ∷ ps) [] f i x y z h = absurd (omega (arith, z))
zipped_listed (s ∷ ss) (l ∷ ls) (p ∷ ps) (c ∷ cs) f i x y z h =
    rw (zipped_listed ss ls ps cs f (i + 1) (omega (arith, x)) (omega (arith, y)) (omega (arith, z)) (λ j g. ap f (omega arith) ∙ h (suc j) (omega arith)))
    (ap {B = List Entry} (λ d. d ∷ listed f (i + 1) (length ls)) (sym (ap f (sym (add-zero i)) ∙ h 0 (omega arith))))

pub entries_listed : (k : Kind) (b : Batch) → uneven k b ≡ false → entries k b ≡ batched k b
unfolding entries entry_at
entries_listed Paired b e =
    zipped_listed b.starts b.lens b.span_starts b.span_counts (entry_at Paired b) 0 (starts_even Paired b e) (spans_even b e).0 (spans_even b e).1 (λ j h. ap (entry_at Paired b) (zero-add j))
entries_listed Single b e =
    zipped_listed b.starts b.lens (replicate (length b.lens) 16) (replicate (length b.lens) 0) (entry_at Single b) 0 (starts_even Single b e)
    (length-replicate (length b.lens) 16) (length-replicate (length b.lens) 0)
    (λ j h. ap (entry_at Single b) (zero-add j) ∙ rw (get_or-replicate {A = ℕ} (length b.lens) j 16 0 h, get_or-replicate {A = ℕ} (length b.lens) j 0 0 h) refl)

-- lists that agree hold every record
pub all_held : (k : Kind) (b : Batch) (agree : Bool) → agree ≡ not (uneven k b) → agree ≡ true → Held k b (length b.lens)
all_held k b agree ea h = record { even = of (uneven k b) (sym ea ∙ h); inside = omega arith }
  where
    of : (u : Bool) → not u ≡ true → u ≡ false
    of true q = absurd (false≢true q)
    of false q = refl

-- ---- the tests of a batch

-- the first record's starts are what 17, 23 and 24 look at
module _ (k : Kind) (a : Areas) (b : Batch) (x : Record) (ex : as_entry x ≡ entry_at k b 0) where
  start_number : (number : ℕ) → ((e : Entry) → e.start ≡ x.start → e.span_start ≡ x.span_start → number ≡ start_refusal (end_read k a) e) → number ≡ start_refusal (end_read k a) (entry_at k b 0)
  unfolding as_entry
  start_number number h = h (entry_at k b 0) (ap (λ (e : Entry). e.start) (sym ex)) (ap (λ (e : Entry). e.span_start) (sym ex))

  pub start_refused : (r : Refusal) → ((e : Entry) → e.start ≡ x.start → e.span_start ≡ x.span_start → number_of r ≡ start_refusal (end_read k a) e) → TestedOn k a b (Err r)
  start_refused r h = record { refused = rw (← start_number (number_of r) h) (sym (or_else_first (number_of r) _ (number_some r))); total = tt }

  pub start_passed : ((e : Entry) → e.start ≡ x.start → e.span_start ≡ x.span_start → 0 ≡ start_refusal (end_read k a) e) → (found : Result ℕ Refusal) → Tested k (batched k b) found → TestedOn k a b found
  start_passed h found t = record { refused = rw (← start_number 0 h) t.refused; total = t.total }

-- ---- the ends that the records of a batch reach

module _ (k : Kind) (m : ℕ) (es : List Entry) where
  pub slot_bytes_lem : length (flatten (gather (slot_of k) m es)) ≡ 2 * length es
  slot_bytes_lem = length_flatten 2 (gather (slot_of k) m es) (widths_slots k m es) ∙ ap (λ (i : ℕ). 2 * i) (length_slots k m es)

  pub row_bytes : length (flatten (gather (row_of k) m es)) ≡ row_width k * row_total k es
  row_bytes = length_flatten (row_width k) (gather (row_of k) m es) (widths_rows k m es) ∙ ap (λ (i : ℕ). row_width k * i) (rows_staged k m es)

  pub checkpoint_bytes : length (flatten (gather (checkpoint_of k) m es)) ≡ checkpoint_width k * windows m (length es)
  checkpoint_bytes =
      length_flatten (checkpoint_width k) (gather (checkpoint_of k) m es) (widths_checkpoints k m es)
      ∙ ap (λ (i : ℕ). checkpoint_width k * i) (count_of (length_checkpoints_from k m es))
    where
      count_of : length (gather (checkpoint_of k) m es) + m / 1024 ≡ (m + length es) / 1024 → length (gather (checkpoint_of k) m es) ≡ windows m (length es)
      count_of q = omega arith

-- ---- the plan

-- the ends that are reached, as those of loc_calls
module _ (k : Kind) (a : Areas) (es : List Entry) (old : Lengths) (eo : EndsOf a old) (base n : ℕ) (eb : base ≡ count a) (en : length es ≡ n) where
  reached_slots : new_end a.slots (gather (slot_of k) (count a) es) ≡ old.slots + 2 * n
  unfolding new_end
  reached_slots = rw (slot_bytes_lem k (count a) es, en, ← eo.slots) refl

  reached_rows : (r : ℕ) → r ≡ row_total k es → new_end a.rows (gather (row_of k) (count a) es) ≡ old.rows + row_width k * r
  unfolding new_end
  reached_rows r er = rw (row_bytes k (count a) es, ← er, ← eo.rows) refl

  reached_checkpoints : new_end a.checkpoints (gather (checkpoint_of k) (count a) es) ≡ old.checkpoints + checkpoint_width k * windows base n
  unfolding new_end
  reached_checkpoints = rw (checkpoint_bytes k (count a) es, en, ← eo.checkpoints, eb) refl

module _ (k : Kind) (a : Areas) (b : Batch) (agree : Bool) (ea : agree ≡ not (uneven k b)) where
  pub plan_uneven : agree ≡ false → Planned k a b (Err ListsDiffer)
  unfolding table
  plan_uneven h = record { number = rw (odd (uneven k b) (sym ea ∙ h)) refl; staging = tt }
    where
      odd : (u : Bool) → not u ≡ false → u ≡ true
      odd true q = refl
      odd false q = absurd (true≢false q)

  module _ (h : agree ≡ true) where
    even : uneven k b ≡ false
    even = (all_held k b agree ea h).even

    whole : table_of k a (append b) ≡ batch_refusal k (end_read k a) (new_ends k a (batched k b)) (sizes a) (batched k b)
    unfolding table
    whole = rw (even, entries_listed k b even) refl

    some_listed : (n : ℕ) → (n ≡ 0 → ⊥) → batch_refusal k (end_read k a) (new_ends k a (listed (entry_at k b) 0 n)) (sizes a) (listed (entry_at k b) 0 n)
        ≡ start_refusal (end_read k a) (entry_at k b 0) or_else entries_refusal k (listed (entry_at k b) 0 n) or_else refuse (end_past (new_ends k a (listed (entry_at k b) 0 n)) (sizes a)) 13
    unfolding batch_refusal listed
    some_listed zero z = absurd (z refl)
    some_listed (suc n) z = refl

-- a stage with these ends is ready where the batch is accepted
ready_from : (k : Kind) (a : Areas) (es : List Entry) (t : Stage) → t.base ≡ count a → EndsOf a t.old
    → t.new.slots ≡ new_end a.slots (gather (slot_of k) (count a) es) → t.new.rows ≡ new_end a.rows (gather (row_of k) (count a) es)
    → t.new.checkpoints ≡ new_end a.checkpoints (gather (checkpoint_of k) (count a) es) → t.base + length es < 2 ^ 64
    → batch_refusal k (end_read k a) (new_ends k a es) (sizes a) es ≡ 0 → Ready k a es t
unfolding RoomPast new_end staged
ready_from k a es t eb eo x y z few ok = record {
  base = eb;
  old_slots = eo.slots;
  old_rows = eo.rows;
  old_checkpoints = eo.checkpoints;
  new_slots = rw eb x;
  new_rows = rw eb y;
  new_checkpoints = rw eb z;
  room = record {
    accepted = batch_tested k (end_read k a) (new_ends k a es) (sizes a) es ok;
    in_slots = rw eb (omega (arith, fits.slots));
    in_rows = rw eb (omega (arith, fits.rows));
    in_checkpoints = rw eb (omega (arith, fits.checkpoints));
    in_numbers = few;
  };
}
  where
    fits : Fits a (staged k (count a) es)
    fits = batch_fits k (end_read k a) a es ok

module _ (k : Kind) (a : Areas) (b : Batch) (agree : Bool) (ea : agree ≡ not (uneven k b)) (h : agree ≡ true) (o : Checked) (q : Finds k a o) where
  eb : o.count ≡ count a
  unfolding count
  eb = q.count

  long : length (batched k b) ≡ length b.lens
  long = length_listed (entry_at k b) 0 (length b.lens)

  pub plan_empty : length b.lens ≡ 0 → o.count < 2 ^ 64 → Planned k a b (Ok (record { base = o.count; old = o.ends; new = o.ends }))
  plan_empty z few = record {
    number = sym (whole k a b agree ea h ∙ none);
    staging = record {
      entries = entries_listed k b (even k a b agree ea h);
      ready = ready_from k a (batched k b) _ eb q.ends (same a.slots (slot_of k) q.ends.slots) (same a.rows (row_of k) q.ends.rows) (same a.checkpoints (checkpoint_of k) q.ends.checkpoints) (omega (arith, long)) none;
      held = all_held k b agree ea h;
    };
  }
    where
      none₀ : batch_refusal k (end_read k a) (new_ends k a (listed (entry_at k b) 0 0)) (sizes a) (listed (entry_at k b) 0 0) ≡ 0
      none₀ = unfold batch_refusal in (unfold listed in refl)

      none : batch_refusal k (end_read k a) (new_ends k a (batched k b)) (sizes a) (batched k b) ≡ 0
      none = rw z none₀

      same : (xs : Bytes) (g : ℕ → Entry → List Bytes) {v : ℕ} → v ≡ counted xs → v ≡ new_end xs (gather g (count a) (batched k b))
      same xs g e = rw z (e ∙ sym (unfold new_end in (unfold listed in (unfold gather in (unfold flatten in add-zero (counted xs))))))

  module _ (z : length b.lens ≡ 0 → ⊥) where
    -- 17, 23, 24 and the records' refusals, then 13
    number_first : (found : Result ℕ Refusal) → TestedOn k a b found
        → batch_refusal k (end_read k a) (new_ends k a (batched k b)) (sizes a) (batched k b) ≡ refusal_of found or_else refuse (end_past (new_ends k a (batched k b)) (sizes a)) 13
    number_first found tested =
        some_listed k a b agree ea h (length b.lens) z
        ∙ rw tested.refused (sym (or_else_assoc (start_refusal (end_read k a) (entry_at k b 0)) (entries_refusal k (batched k b)) (refuse (end_past (new_ends k a (batched k b)) (sizes a)) 13)))

    pub plan_refused : (x : Refusal) → TestedOn k a b (Err x) → Planned k a b (Err x)
    plan_refused x tested = record { number = sym (whole k a b agree ea h ∙ number_first (Err x) tested ∙ or_else_first (number_of x) _ (number_some x)); staging = tt }

    module _ (rows : ℕ) (tested : TestedOn k a b (Ok rows)) where
      slots_are : new_end a.slots (gather (slot_of k) (count a) (batched k b)) ≡ o.ends.slots + 2 * length b.lens
      slots_are = reached_slots k a (batched k b) o.ends q.ends o.count (length b.lens) eb long

      rows_are : new_end a.rows (gather (row_of k) (count a) (batched k b)) ≡ o.ends.rows + row_width k * rows
      rows_are = reached_rows k a (batched k b) o.ends q.ends o.count (length b.lens) eb long rows tested.total

      checkpoints_are : new_end a.checkpoints (gather (checkpoint_of k) (count a) (batched k b)) ≡ o.ends.checkpoints + checkpoint_width k * windows o.count (length b.lens)
      checkpoints_are = reached_checkpoints k a (batched k b) o.ends q.ends o.count (length b.lens) eb long

      reach_number : (d : Result Stage Refusal) → Reaches k a o (length b.lens) rows d → refusal_of d ≡ batch_refusal k (end_read k a) (new_ends k a (batched k b)) (sizes a) (batched k b)
      unfolding end_past new_ends staged sizes reached
      reach_number d r = r.number ∙ rw (← slots_are, ← rows_are, ← checkpoints_are) (sym (number_first (Ok rows) tested))

      pub plan_reached : (d : Result Stage Refusal) → Reaches k a o (length b.lens) rows d → Planned k a b d
      unfolding reached
      plan_reached (Err x) r = record { number = reach_number (Err x) r ∙ sym (whole k a b agree ea h); staging = tt }
      plan_reached (Ok t) r = record {
        number = reach_number (Ok t) r ∙ sym (whole k a b agree ea h);
        staging = record {
          entries = entries_listed k b (even k a b agree ea h);
          ready = rw r.stage.0 (ready_from k a (batched k b) _ eb q.ends (sym slots_are) (sym rows_are) (sym checkpoints_are) (omega (arith, r.stage.1, long)) (sym (reach_number (Ok t) r)));
          held = all_held k b agree ea h;
        };
      }
