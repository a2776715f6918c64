-- When opening would store nothing, in the form in which the code meets it, and what an accepted call knows of its areas.
-- Where the checkpoint rule's truncation stores nothing, the cut rule looks at the areas as they are.
use Prim.Native.Nat.{ℕ, zero, suc, ◌+◌, ◌-◌, ◌*◌, ◌/◌, ◌%◌, ◌^◌, ◌≤◌, ◌<◌}
use mathlib.Core.Path.{◌≡◌, refl, sym, ap, ◌∙◌}
use mathlib.Core.Logic.{◌⊎◌, inl, inr}
use mathlib.Core.Bool.{Bool, true, false, not, ◌||◌, false≢true}
use mathlib.Core.List.{List, [], ◌∷◌, ◌++◌}
use native.Mathlib.Nat.{div-add-mod}
use native.Mathlib.Omega.{arith}
use native.Mathlib.Decide.{dec_le}
use lib.Dec.{leb, ltb, eqb}
use lib.ListN.{length}
use borrow.Author.Tests.{lt-leb, lt-ltb, le-ltb, ltb-false, eq-eqb, ne_eqb, eqb-true, eqb-false, not-false}
use Rattle.loc_leaf.specs.declared.Kind.{Kind}
use Rattle.loc_leaf.specs.declared.Kind.TheVariants.{Paired, Single}
use Rattle.loc_leaf.specs.Bytes.{Bytes}
use Rattle.std.specs.Prelude.{Result, Ok, Err}
use Rattle.std.specs.Result.{is_err}
use Rattle.loc_leaf.specs.declared.refusal.Refusal.{Refusal}
use Rattle.loc_leaf.specs.Answers.{refuse, ◌or_else◌, number_of, refusal_of}
use Rattle.loc_leaf.specs.Area.{counted, fill}
use Rattle.loc_leaf.specs.Kind.{row_width, checkpoint_width}
use Rattle.loc_leaf.specs.Slot.{checkpoint_rule}
use Rattle.loc_leaf.specs.Rows.{row_list, ascending, last_number, rows_up_to}
use Rattle.loc_leaf.proofs.Refusals.{or_else_left, or_else_right, refuse_zero, number_some}
use Rattle.loc_leaf.proofs.Booleans.{is?, both_left, neither_left, neither_right}
use Rattle.loc_leaf.proofs.AreaLaws.{counted_ge}
use Rattle.loc_leaf.proofs.RowLaws.{rows_count}
use Rattle.loc_leaf.proofs.RowPrefix.{up_to_all, up_to_fewer}
use Rattle.loc_calls.specs.Areas.{Areas, each, areas, count}
use Rattle.loc_calls.specs.Stores.{Place, keep, slot_length, row_length, checkpoint_length, write, step, run, differing, truncate_places, next_row, holds_next, cut_rule, ruled_count, ruled, open_places, ragged, open_refusal, stores, any_stores, settled}
use Rattle.loc_calls.specs.Calls.{too_small, first_refusal}
use Rattle.loc_store.specs.declared.Lengths.{Lengths}
use Rattle.loc_store.specs.declared.Published.{Published}
use Rattle.loc_store.specs.Areas.{HoldHeaders, Publishes}
use Rattle.loc_store.specs.Plans.{fitted, lengths_of, lengths_for, length_places, number_before, cut_past}
use Rattle.loc_store.proofs.RuleLaws.{rows_last}

-- ---- places that store nothing

stores_differing : (place : ℕ → Place) (old v : ℕ) → stores (place v) ≡ true → stores (differing place old v) ≡ not (eqb v old)
unfolding differing stores
stores_differing place old v h = go (is? (eqb v old))
  where
    go : (eqb v old ≡ true) ⊎ (eqb v old ≡ false) → stores (differing place old v) ≡ not (eqb v old)
    go (inl t) = rw t refl
    go (inr t) = rw t h

either : (a b : Bool) → (a || (b || true)) ≡ true
either true b = refl
either false true = refl
either false false = refl

module _ (old t : Lengths) where
  any_stores_lem : any_stores (length_places old t)
      ≡ (not (eqb t.checkpoints old.checkpoints) || (not (eqb t.rows old.rows) || (not (eqb t.slots old.slots) || false)))
  unfolding length_places any_stores stores
  any_stores_lem =
      rw (
        stores_differing checkpoint_length old.checkpoints t.checkpoints refl,
        stores_differing row_length old.rows t.rows refl,
        stores_differing slot_length old.slots t.slots refl,
      ) refl

  stores_none : t.checkpoints ≡ old.checkpoints → t.rows ≡ old.rows → t.slots ≡ old.slots → any_stores (length_places old t) ≡ false
  stores_none x y z = rw (any_stores_lem, eq-eqb t.checkpoints old.checkpoints x, eq-eqb t.rows old.rows y, eq-eqb t.slots old.slots z) refl

  stores_checkpoints : (t.checkpoints ≡ old.checkpoints → ⊥) → any_stores (length_places old t) ≡ true
  stores_checkpoints h = rw (any_stores_lem, ne_eqb t.checkpoints old.checkpoints h) refl

  stores_rows : (t.rows ≡ old.rows → ⊥) → any_stores (length_places old t) ≡ true
  stores_rows h = rw (any_stores_lem, ne_eqb t.rows old.rows h) (either (not (eqb t.checkpoints old.checkpoints)) false)

  stores_slots : (t.slots ≡ old.slots → ⊥) → any_stores (length_places old t) ≡ true
  stores_slots h = rw (any_stores_lem, ne_eqb t.slots old.slots h) (either (not (eqb t.checkpoints old.checkpoints)) (not (eqb t.rows old.rows)))

any_append : (ps qs : List Place) → any_stores (ps ++ qs) ≡ (any_stores ps || any_stores qs)
unfolding any_stores
any_append [] qs = refl
any_append (p ∷ ps) qs = ap (λ (b : Bool). stores p || b) (any_append ps qs) ∙ sym (assoc (stores p) (any_stores ps) (any_stores qs))
  where
    assoc : (a b d : Bool) → ((a || b) || d) ≡ (a || (b || d))
    assoc true b d = refl
    assoc false b d = refl

step_none : (p : Place) (a : Areas) → stores p ≡ false → step p a ≡ a
unfolding stores step
step_none keep a h = refl
step_none (slot_length v) a h = absurd (false≢true (sym h))
step_none (row_length v) a h = absurd (false≢true (sym h))
step_none (checkpoint_length v) a h = absurd (false≢true (sym h))
step_none (write b) a h = absurd (false≢true (sym h))

run_none : (s : ℕ) (ps : List Place) (a : Areas) → any_stores ps ≡ false → run s ps a ≡ a
unfolding run any_stores
run_none zero ps a h = refl
run_none (suc s) [] a h = refl
run_none (suc s) (p ∷ ps) a h =
    ap (run s ps) (step_none p a (neither_left (stores p) (any_stores ps) h)) ∙ run_none s ps a (neither_right (stores p) (any_stores ps) h)

-- ---- settled

-- the counted lengths
abbrev counts : Areas → Lengths
counts a = lengths_of (each counted a)

truncate_places_lem : (k : Kind) (n : ℕ) (a : Areas) → truncate_places k n a ≡ length_places (counts a) (lengths_for k n a.rows)
unfolding truncate_places length_places lengths_for
truncate_places_lem k n a = refl

module _ (k : Kind) (a : Areas) (z : open_refusal k a ≡ 0) (n : ℕ) (en : ruled_count k a ≡ n) where
  ruled_places : truncate_places k (ruled_count k a) a ≡ length_places (counts a) (lengths_for k n a.rows)
  ruled_places = rw en (truncate_places_lem k n a)

  parts : settled k a ≡ not (any_stores (length_places (counts a) (lengths_for k n a.rows)) || any_stores (truncate_places k (cut_rule k (ruled k a)) (ruled k a)))
  unfolding settled open_places
  parts = rw (z, ruled_places, any_append (length_places (counts a) (lengths_for k n a.rows)) (truncate_places k (cut_rule k (ruled k a)) (ruled k a))) refl

  unsettled : any_stores (length_places (counts a) (lengths_for k n a.rows)) ≡ true → settled k a ≡ false
  unsettled h = parts ∙ rw h refl

  -- where the checkpoint rule stores nothing, the cut rule meets the areas as they are
  settled_cut : any_stores (length_places (counts a) (lengths_for k n a.rows)) ≡ false
      → settled k a ≡ not (any_stores (length_places (counts a) (lengths_for k (cut_rule k a) a.rows)))
  unfolding ruled
  settled_cut h = parts ∙ rw (h, same, truncate_places_lem k (cut_rule k a) a) refl
    where
      same : ruled k a ≡ a
      same = rw ruled_places (run_none 3 (length_places (counts a) (lengths_for k n a.rows)) a h)

-- ---- what an accepted call knows

pub not_small : (s r c : Bytes) (b : Bool) → b ≡ too_small (areas s r c) → b ≡ false → HoldHeaders (areas s r c)
unfolding too_small
not_small s r c b e h =
    record {
      slots_hold = ltb-false (length s) 16 (neither_left (ltb (length s) 16) (ltb (length r) 16) first);
      rows_hold = ltb-false (length r) 16 (neither_right (ltb (length s) 16) (ltb (length r) 16) first);
      checkpoints_hold = ltb-false (length c) 16 (neither_right (ltb (length s) 16 || ltb (length r) 16) (ltb (length c) 16) (sym e ∙ h));
    }
  where
    first : (ltb (length s) 16 || ltb (length r) 16) ≡ false
    first = neither_left (ltb (length s) 16 || ltb (length r) 16) (ltb (length c) 16) (sym e ∙ h)

-- of 2 to 5: nothing is left over, and the rows ascend
module _ (k : Kind) (s r c : Bytes) (z : open_refusal k (areas s r c) ≡ 0) where
  abbrev past_3 : ℕ
  past_3 = refuse (ragged (row_width k) r) 4 or_else refuse (not (ascending 0 (row_list k r))) 5

  abbrev past_2 : ℕ
  past_2 = refuse (ragged (checkpoint_width k) c) 3 or_else past_3

  opened_slots : ragged 2 s ≡ false
  unfolding open_refusal
  opened_slots = refuse_zero (ragged 2 s) 1 (or_else_left (refuse (ragged 2 s) 2) past_2 z)

  after_2 : past_2 ≡ 0
  unfolding open_refusal
  after_2 = or_else_right (refuse (ragged 2 s) 2) past_2 z

  opened_checkpoints : ragged (checkpoint_width k) c ≡ false
  opened_checkpoints = refuse_zero (ragged (checkpoint_width k) c) 2 (or_else_left (refuse (ragged (checkpoint_width k) c) 3) past_3 after_2)

  after_3 : past_3 ≡ 0
  after_3 = or_else_right (refuse (ragged (checkpoint_width k) c) 3) past_3 after_2

  opened_rows : ragged (row_width k) r ≡ false
  opened_rows = refuse_zero (ragged (row_width k) r) 3 (or_else_left (refuse (ragged (row_width k) r) 4) (refuse (not (ascending 0 (row_list k r))) 5) after_3)

  pub opened_ascends : ascending 0 (row_list k r) ≡ true
  opened_ascends = not-false (ascending 0 (row_list k r)) (refuse_zero (not (ascending 0 (row_list k r))) 4 (or_else_right (refuse (ragged (row_width k) r) 4) (refuse (not (ascending 0 (row_list k r))) 5) after_3))

-- of number 1 and 6
module _ (k : Kind) (a : Areas) (e : 0 ≡ first_refusal k a) where
  pub accepted_sized : HoldHeaders a
  accepted_sized = not_small a.slots a.rows a.checkpoints (too_small a) refl (refuse_zero (too_small a) 0 (or_else_left _ (refuse (not (settled k a)) 6) (sym e)))

  accepted_settled : settled k a ≡ true
  accepted_settled = not-false (settled k a) (refuse_zero (not (settled k a)) 5 (or_else_right (refuse (too_small a) 1) _ (sym e)))

  accepted_opens : open_refusal k a ≡ 0
  unfolding settled
  accepted_opens = eqb-true (open_refusal k a) 0 (both_left (eqb (open_refusal k a) 0) (not (any_stores (open_places k a))) accepted_settled)

  pub accepted_ascends : ascending 0 (row_list k a.rows) ≡ true
  accepted_ascends = opened_ascends k a.slots a.rows a.checkpoints accepted_opens

-- ---- what opening accepts, and when it would store nothing of it

whole : (w : ℕ) (xs : Bytes) → 16 ≤ length xs → ragged w xs ≡ false → counted xs ≡ 16 + w * fill w xs
unfolding ragged fill
whole w xs h q =
    omega (arith, counted_ge xs h, div-add-mod (counted xs - 16) w, eqb-true ((counted xs - 16) % w) 0 (not-false (eqb ((counted xs - 16) % w) 0) q))

rows_same : (k : Kind) (x y : ℕ) → 16 + row_width k * x ≡ 16 + row_width k * y → x ≡ y
rows_same Paired x y e = omega arith
rows_same Single x y e = omega arith

checkpoints_same : (k : Kind) (x y : ℕ) → 16 + checkpoint_width k * x ≡ 16 + checkpoint_width k * y → x ≡ y
checkpoints_same Paired x y e = omega arith
checkpoints_same Single x y e = omega arith

module _ (k : Kind) (s r c : Bytes) (g : HoldHeaders (areas s r c)) (z : open_refusal k (areas s r c) ≡ 0) where
  abbrev a : Areas
  a = areas s r c

  abbrev n : ℕ
  n = fill 2 s

  whole_slots : counted s ≡ 16 + 2 * n
  whole_slots = whole 2 s g.slots_hold (opened_slots k s r c z)

  whole_rows : counted r ≡ 16 + row_width k * fill (row_width k) r
  whole_rows = whole (row_width k) r g.rows_hold (opened_rows k s r c z)

  whole_checkpoints : counted c ≡ 16 + checkpoint_width k * fill (checkpoint_width k) c
  whole_checkpoints = whole (checkpoint_width k) c g.checkpoints_hold (opened_checkpoints k s r c z)

  all_kept : n / 1024 ≤ fill (checkpoint_width k) c → ruled_count k a ≡ n
  unfolding ruled_count count checkpoint_rule
  all_kept h = rw (le-ltb (fill (checkpoint_width k) c) (n / 1024) h) refl

  some_kept : fill (checkpoint_width k) c < n / 1024 → ruled_count k a ≡ (fill (checkpoint_width k) c + 1) * 1024 - 1
  unfolding ruled_count count checkpoint_rule
  some_kept h = rw (lt-ltb (fill (checkpoint_width k) c) (n / 1024) h) refl

  slots_differ : (m : ℕ) → (m ≡ n → ⊥) → any_stores (length_places (counts a) (lengths_for k m r)) ≡ true
  unfolding lengths_for
  slots_differ m h = stores_slots (counts a) (lengths_for k m r) (λ e. h (omega (arith, whole_slots)))

  -- a checkpoint is lacking, or one is too many
  windows_differ : (fill (checkpoint_width k) c ≡ n / 1024 → ⊥) → settled k a ≡ false
  unfolding lengths_for
  windows_differ h = go (dec_le (n / 1024) (fill (checkpoint_width k) c))
    where
      go : Dec (n / 1024 ≤ fill (checkpoint_width k) c) → settled k a ≡ false
      go (yes x) =
          unsettled k a z n (all_kept x)
          (stores_checkpoints (counts a) (lengths_for k n r) (λ e. h (sym (checkpoints_same k (n / 1024) (fill (checkpoint_width k) c) (e ∙ whole_checkpoints)))))
      go (no x) =
          unsettled k a z ((fill (checkpoint_width k) c + 1) * 1024 - 1) (some_kept (omega arith))
          (slots_differ ((fill (checkpoint_width k) c + 1) * 1024 - 1) (λ e. omega arith))

  last_is : length r < 2 ^ 64 → number_before k r (counted r) ≡ last_number 0 (row_list k r)
  unfolding fitted
  last_is l =
      ap (number_before k r) whole_rows ∙ sym (rows_last k r (fill (row_width k) r) (omega arith) g.rows_hold l)
      ∙ ap (λ (xs : Bytes). last_number 0 (row_list k xs)) (rw (eq-eqb (16 + row_width k * fill (row_width k) r) (counted r) (sym whole_rows)) refl)

  module _ (l : length r < 2 ^ 64) (h : fill (checkpoint_width k) c ≡ n / 1024) where
    keeps : ruled_count k a ≡ n
    keeps = all_kept (omega arith)

    -- a row is numbered above the count
    rows_above : n < last_number 0 (row_list k r) → settled k a ≡ false
    unfolding lengths_for
    rows_above x =
        unsettled k a z n keeps
        (stores_rows (counts a) (lengths_for k n r)
        (λ e. omega (arith, rows_same k (rows_up_to n (row_list k r)) (fill (row_width k) r) (e ∙ whole_rows), up_to_fewer n 0 (row_list k r) (omega arith) x, rows_count k r)))

    module _ (x : last_number 0 (row_list k r) ≤ n) where
      none_differs : any_stores (length_places (counts a) (lengths_for k n r)) ≡ false
      unfolding lengths_for
      none_differs =
          stores_none (counts a) (lengths_for k n r)
          (ap (λ (i : ℕ). 16 + checkpoint_width k * i) (sym h) ∙ sym whole_checkpoints)
          (ap (λ (i : ℕ). 16 + row_width k * i) (up_to_all n 0 (row_list k r) (opened_ascends k s r c z) x ∙ rows_count k r) ∙ sym whole_rows)
          (sym whole_slots)

      cut_is : cut_rule k a ≡ cut_past k s r n (counted r)
      unfolding cut_rule holds_next next_row count cut_past
      cut_is = rw (last_is l) refl

      -- it is settled exactly if the cut rule keeps all records
      cut_decides : (m : ℕ) → m ≡ cut_past k s r n (counted r) → settled k a ≡ eqb m n
      cut_decides m e = settled_cut k a z n keeps none_differs ∙ rw (cut_is, ← e) (go (is? (eqb m n)))
        where
          go : (eqb m n ≡ true) ⊎ (eqb m n ≡ false) → not (any_stores (length_places (counts a) (lengths_for k m r))) ≡ eqb m n
          go (inl t) = rw (t, eqb-true m n t, none_differs) refl
          go (inr t) = rw (t, slots_differ m (eqb-false m n t)) refl

module _ (k : Kind) (a : Areas) (e : 0 ≡ first_refusal k a) where
  -- a settled index has a whole number of rows
  pub accepted_rows : counted a.rows ≡ 16 + row_width k * fill (row_width k) a.rows
  accepted_rows = whole_rows k a.slots a.rows a.checkpoints (accepted_sized k a e) (accepted_opens k a e)

  -- and a checkpoint for each whole window
  pub accepted_checkpointed : fill (checkpoint_width k) a.checkpoints ≡ fill 2 a.slots / 1024
  accepted_checkpointed = go (is? (eqb (fill (checkpoint_width k) a.checkpoints) (fill 2 a.slots / 1024)))
    where
      go : (eqb (fill (checkpoint_width k) a.checkpoints) (fill 2 a.slots / 1024) ≡ true) ⊎ (eqb (fill (checkpoint_width k) a.checkpoints) (fill 2 a.slots / 1024) ≡ false)
          → fill (checkpoint_width k) a.checkpoints ≡ fill 2 a.slots / 1024
      go (inl t) = eqb-true (fill (checkpoint_width k) a.checkpoints) (fill 2 a.slots / 1024) t
      go (inr t) =
          absurd (false≢true (sym (windows_differ k a.slots a.rows a.checkpoints (accepted_sized k a e) (accepted_opens k a e)
          (eqb-false (fill (checkpoint_width k) a.checkpoints) (fill 2 a.slots / 1024) t)) ∙ accepted_settled k a e))

-- ---- whether it is settled, in the form in which the code meets it

module _ (k : Kind) (s r c : Bytes) (p : Published) (g : HoldHeaders (areas s r c)) (q : Publishes k (areas s r c) p)
    {A : Type 0} (o : Result A Refusal) (eo : Publishes k (areas s r c) p → refusal_of o ≡ open_refusal k (areas s r c)) (b : Bool) (eb : b ≡ is_err o) where
  pub unopened : b ≡ true → false ≡ settled k (areas s r c)
  unfolding settled
  unopened h = by o (sym eb ∙ h) (eo q)
    where
      by : (x : Result A Refusal) → is_err x ≡ true → refusal_of x ≡ open_refusal k (areas s r c) → false ≡ settled k (areas s r c)
      by (Ok v) t e = absurd (false≢true t)
      by (Err n) t e = rw (← e, ne_eqb (number_of n) 0 (number_some n)) refl

  module _ (h : b ≡ false) (l : length r < 2 ^ 64) where
    opens : open_refusal k (areas s r c) ≡ 0
    opens = by o (sym eb ∙ h) (eo q)
      where
        by : (x : Result A Refusal) → is_err x ≡ false → refusal_of x ≡ open_refusal k (areas s r c) → open_refusal k (areas s r c) ≡ 0
        by (Ok v) t e = sym e
        by (Err n) t e = absurd (false≢true (sym t))

    pub windows_unlike : (p.checkpoints.count ≡ p.slots.count / 1024 → ⊥) → false ≡ settled k (areas s r c)
    windows_unlike x = sym (windows_differ k s r c g opens (λ y. x (q.checkpoints.count ∙ y ∙ ap (λ (i : ℕ). i / 1024) (sym q.slots.count))))

    module _ (w : p.checkpoints.count ≡ p.slots.count / 1024) (last : ℕ) (el : last ≡ number_before k r p.rows.end) where
      windows : fill (checkpoint_width k) c ≡ fill 2 s / 1024
      windows = sym q.checkpoints.count ∙ w ∙ ap (λ (i : ℕ). i / 1024) q.slots.count

      the_last : last ≡ last_number 0 (row_list k r)
      the_last = el ∙ ap (number_before k r) q.rows.end ∙ last_is k s r c g opens l

      pub row_past_count : p.slots.count < last → leb last p.slots.count ≡ settled k (areas s r c)
      row_past_count x = lt-leb last p.slots.count x ∙ sym (rows_above k s r c g opens l windows (omega (arith, the_last, q.slots.count)))

      pub cut_decides_it : (m : ℕ) → last ≤ p.slots.count → m ≡ cut_past k s r p.slots.count p.rows.end → eqb m p.slots.count ≡ settled k (areas s r c)
      cut_decides_it m x em =
          sym (cut_decides k s r c g opens l windows (omega (arith, the_last, q.slots.count)) m (em ∙ rw (q.slots.count, q.rows.end) refl)
          ∙ ap (eqb m) (sym q.slots.count))
