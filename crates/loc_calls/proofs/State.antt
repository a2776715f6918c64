-- Areas that hold a list of records: all its slots, its first r rows and c checkpoints; what lengths and the cut rule do to them.
-- The row that follows the published ones is known to stand behind them, where the list has one.
use Prim.Native.Nat.{ℕ, zero, suc, ◌+◌, ◌-◌, ◌*◌, ◌/◌, ◌^◌, ◌≤◌, ◌<◌, min}
use mathlib.Core.Path.{◌≡◌, refl, sym, ap, ◌∙◌, subst}
use mathlib.Core.Bool.{Bool, true, false, cond, ◌&&◌}
use mathlib.Core.List.{List, [], ◌∷◌, ◌++◌}
use native.Mathlib.Nat.{zero-lt-suc, le_refl, sub-zero, mul-suc, not-suc-le-zero}
use native.Mathlib.Omega.{arith}
use lib.Dec.{leb, ltb, eqb}
use lib.ListN.{length, take, drop, get_or, length-append, length-take}
use lib.Seq.{take-take, take-length, length-take-le, get_or_at, get_or-take, take_at, split_at}
use borrow.Author.Tests.{le-leb, lt-ltb, ltb-true, leb-true}
use Rattle.loc_leaf.specs.declared.Kind.{Kind}
use Rattle.loc_leaf.specs.declared.Kind.TheVariants.{Paired, Single}
use Rattle.loc_leaf.specs.Bytes.{Bytes}
use Rattle.loc_leaf.specs.Area.{counted, store_length, fill}
use Rattle.loc_leaf.specs.Kind.{row_width, checkpoint_width}
use Rattle.loc_leaf.specs.Slot.{slot, slot_at}
use Rattle.loc_leaf.specs.Rows.{row, row_number, row_value, row_list, last_number, rows_up_to}
use Rattle.loc_leaf.specs.Cut.{matches, cuts, cut_for}
use Rattle.loc_leaf.proofs.Booleans.{both_left, both_right, not_true_is_false}
use Rattle.loc_leaf.proofs.AreaLaws.{take_twice}
use Rattle.loc_leaf.proofs.ValueLaws.{row_number_lem, row_value_lem, needs_row_lem, matches_own, matches_needs}
use Rattle.loc_calls.specs.Areas.{Areas, count}
use Rattle.loc_calls.specs.Table.{Entry, value_of}
use Rattle.loc_calls.specs.Stores.{keep, slot_length, row_length, checkpoint_length, step, run, differing, truncate_places, next_row, holds_next, cut_rule, gather, slot_of, row_of}
use Rattle.loc_calls.proofs.Holds.{Holds, holds_fill, holds_published, holds_get, store_differing, set_differing, forget}
use Rattle.loc_calls.proofs.Gathered.{slots_of, rows_of, checkpoints_of, ValidEntry, AllValid, valid_take, valid_at, gather_after, length_slots, slots_take, length_checkpoints, checkpoints_take, rows_in, rows_take, rows_up_to_lem, last_le, NextRow, next_split, next_total, last_covers}

pub record State (k : Kind) (a : Areas) (E : List Entry) (r c : ℕ) : Type 0 where
  pub slots : Holds 2 a.slots (slots_of k E) (length E)
  pub rows : Holds (row_width k) a.rows (take (suc r) (rows_of k E)) r
  pub checkpoints : Holds (checkpoint_width k) a.checkpoints (take c (checkpoints_of k E)) c
  pub valid : AllValid k E

pub row_wide : (k : Kind) → 0 < row_width k
row_wide Paired = zero-lt-suc 15
row_wide Single = zero-lt-suc 11

pub checkpoint_wide : (k : Kind) → 0 < checkpoint_width k
checkpoint_wide Paired = zero-lt-suc 15
checkpoint_wide Single = zero-lt-suc 7

module _ (k : Kind) (a : Areas) (E : List Entry) (r c : ℕ) (s : State k a E r c) where
  pub count_is : count a ≡ length E
  unfolding count
  count_is = holds_fill 2 a.slots (slots_of k E) (length E) s.slots (zero-lt-suc 1)

  pub few : length E < 2 ^ 64
  few = omega (arith, s.slots.below, length_slots k 0 E)

  pub rows_inside : r ≤ length (rows_of k E)
  rows_inside = omega (arith, s.rows.inside, length-take (suc r) (rows_of k E))

  pub checkpoints_inside : c ≤ length E / 1024
  checkpoints_inside = omega (arith, s.checkpoints.inside, length-take c (checkpoints_of k E), length_checkpoints k E)

  pub row_list_lem : row_list k a.rows ≡ take r (rows_of k E)
  unfolding row_list
  row_list_lem =
      holds_published (row_width k) a.rows (take (suc r) (rows_of k E)) r s.rows (row_wide k)
      ∙ take-take r (suc r) (rows_of k E) (omega arith)

  pub checkpoint_fill : fill (checkpoint_width k) a.checkpoints ≡ c
  checkpoint_fill = holds_fill (checkpoint_width k) a.checkpoints (take c (checkpoints_of k E)) c s.checkpoints (checkpoint_wide k)

  pub up_to : (n : ℕ) → rows_up_to n (row_list k a.rows) ≡ min r (rows_in k E n)
  unfolding rows_in
  up_to n = rw row_list_lem (rw (sub-zero n) at (rows_up_to_lem k n r 0 E (omega (arith, few))))

-- ---- the store of one differing length

module _ (a : Areas) (old v : ℕ) where
  pub step_slots : step (differing slot_length old v) a ≡ record { slots = cond (eqb v old) a.slots (store_length v a.slots); rows = a.rows; checkpoints = a.checkpoints }
  unfolding step differing
  step_slots = go (eqb v old)
    where
      go : (b : Bool) → step (cond b keep (slot_length v)) a ≡ record { slots = cond b a.slots (store_length v a.slots); rows = a.rows; checkpoints = a.checkpoints }
      go true = refl
      go false = refl

  pub step_rows : step (differing row_length old v) a ≡ record { slots = a.slots; rows = cond (eqb v old) a.rows (store_length v a.rows); checkpoints = a.checkpoints }
  unfolding step differing
  step_rows = go (eqb v old)
    where
      go : (b : Bool) → step (cond b keep (row_length v)) a ≡ record { slots = a.slots; rows = cond b a.rows (store_length v a.rows); checkpoints = a.checkpoints }
      go true = refl
      go false = refl

  pub step_checkpoints : step (differing checkpoint_length old v) a ≡ record { slots = a.slots; rows = a.rows; checkpoints = cond (eqb v old) a.checkpoints (store_length v a.checkpoints) }
  unfolding step differing
  step_checkpoints = go (eqb v old)
    where
      go : (b : Bool) → step (cond b keep (checkpoint_length v)) a ≡ record { slots = a.slots; rows = a.rows; checkpoints = cond b a.checkpoints (store_length v a.checkpoints) }
      go true = refl
      go false = refl

-- ---- the three lengths of a truncation

module _ (k : Kind) (a : Areas) (E : List Entry) (r c : ℕ) (s : State k a E r c) (n : ℕ) (g : n ≤ length E) (gc : n / 1024 ≤ c) where
  -- the rows that are left
  abbrev left : ℕ
  left = min r (rows_in k E n)

  abbrev new_slots : Bytes
  new_slots = store_differing (16 + 2 * n) a.slots

  abbrev new_rows : Bytes
  new_rows = store_differing (16 + row_width k * rows_up_to n (row_list k a.rows)) a.rows

  abbrev new_checkpoints : Bytes
  new_checkpoints = store_differing (16 + checkpoint_width k * (n / 1024)) a.checkpoints

  run_one : run 1 (truncate_places k n a) a ≡ record { slots = a.slots; rows = a.rows; checkpoints = new_checkpoints }
  unfolding run truncate_places store_differing
  run_one = step_checkpoints a (counted a.checkpoints) (16 + checkpoint_width k * (n / 1024))

  run_two : run 2 (truncate_places k n a) a ≡ record { slots = a.slots; rows = new_rows; checkpoints = new_checkpoints }
  unfolding run truncate_places store_differing
  run_two =
      ap (step (differing row_length (counted a.rows) (16 + row_width k * rows_up_to n (row_list k a.rows)))) run_one
      ∙ step_rows (record { slots = a.slots; rows = a.rows; checkpoints = new_checkpoints }) (counted a.rows) (16 + row_width k * rows_up_to n (row_list k a.rows))

  run_three : run 3 (truncate_places k n a) a ≡ record { slots = new_slots; rows = new_rows; checkpoints = new_checkpoints }
  unfolding run truncate_places store_differing
  run_three =
      ap (step (differing slot_length (counted a.slots) (16 + 2 * n))) run_two
      ∙ step_slots (record { slots = a.slots; rows = new_rows; checkpoints = new_checkpoints }) (counted a.slots) (16 + 2 * n)

  checkpoints_held : Holds (checkpoint_width k) new_checkpoints (take (n / 1024) (checkpoints_of k E)) (n / 1024)
  checkpoints_held =
      rw (take-take (n / 1024) c (checkpoints_of k E) gc) at
      (forget (checkpoint_width k) _ _ (n / 1024) (n / 1024)
      (set_differing (checkpoint_width k) a.checkpoints (take c (checkpoints_of k E)) c (n / 1024) s.checkpoints (omega (arith, s.checkpoints.inside)))
      (le_refl (n / 1024)))

  rows_held : Holds (row_width k) new_rows (take (suc left) (rows_of k E)) left
  rows_held =
      rw (up_to k a E r c s n)
      (rw (take-take (suc left) (suc r) (rows_of k E) (omega arith)) at
      (forget (row_width k) _ _ left (suc left)
      (set_differing (row_width k) a.rows (take (suc r) (rows_of k E)) r left s.rows (omega (arith, s.rows.inside)))
      (omega arith)))

  slots_kept : Holds 2 new_slots (slots_of k (take n E)) n
  slots_kept =
      rw (slots_take k E n g)
      (forget 2 _ _ n n (set_differing 2 a.slots (slots_of k E) (length E) n s.slots (omega (arith, length_slots k 0 E))) (le_refl n))

  rows_kept : Holds (row_width k) new_rows (take (suc left) (rows_of k (take n E))) left
  rows_kept =
      rw (rows_take k E n, take_twice (suc left) (rows_in k E n) (rows_of k E))
      (rw (take-take (min (suc left) (rows_in k E n)) (suc left) (rows_of k E) (omega arith)) at
      (forget (row_width k) _ _ left (min (suc left) (rows_in k E n)) rows_held (omega arith)))

  checkpoints_kept : Holds (checkpoint_width k) new_checkpoints (take (n / 1024) (checkpoints_of k (take n E))) (n / 1024)
  checkpoints_kept =
      rw (checkpoints_take k E n g, take-take (n / 1024) (n / 1024) (checkpoints_of k E) (le_refl (n / 1024))) checkpoints_held

  pub truncated_1 : State k (run 1 (truncate_places k n a) a) E r (n / 1024)
  truncated_1 = rw run_one (record { slots = s.slots; rows = s.rows; checkpoints = checkpoints_held; valid = s.valid })

  pub truncated_2 : State k (run 2 (truncate_places k n a) a) E left (n / 1024)
  truncated_2 = rw run_two (record { slots = s.slots; rows = rows_held; checkpoints = checkpoints_held; valid = s.valid })

  pub truncated_3 : State k (run 3 (truncate_places k n a) a) (take n E) left (n / 1024)
  truncated_3 = rw run_three (record { slots = rw (length-take-le n E g) slots_kept; rows = rows_kept; checkpoints = checkpoints_kept; valid = valid_take k n E s.valid })

-- ---- the cut rule

module _ (k : Kind) (a : Areas) (E : List Entry) (r c : ℕ) (s : State k a E r c) where
  -- the slot of a record stands where it is looked for
  pub slot_at_lem : (P : List Entry) (e : Entry) (S : List Entry) → E ≡ P ++ (e ∷ S) → slot_at a.slots (suc (length P)) ≡ slot k (value_of e)
  unfolding slot_at gather
  slot_at_lem P e S q =
      ap (λ (i : ℕ). take 2 (drop (16 + 2 * i) a.slots)) (one_less (length P))
      ∙ holds_get 2 a.slots (slots_of k E) (length E) s.slots (length P) inside
      ∙ ap (λ (l : List Bytes). get_or l (length P) []) (ap (gather (slot_of k) 0) q ∙ gather_after (slot_of k) P (e ∷ S))
      ∙ get_or_at (slots_of k P) (slot k (value_of e)) (gather (slot_of k) (suc (length P)) S) [] (length P) (length_slots k 0 P)
    where
      one_less : (i : ℕ) → suc i - 1 ≡ i
      one_less i = omega arith

      inside : length P < length (slots_of k E)
      inside = rw (length_slots k 0 E, q, length-append P (e ∷ S)) (omega arith)

  module _ (t : NextRow k 0 r E) where
    abbrev id : ℕ
    id = suc (length t.first)

    abbrev it : Bytes
    it = row k id (value_of t.it)

    it_valid : ValidEntry k t.it
    it_valid = valid_at k t.first t.it t.rest (subst (AllValid k) t.split s.valid)

    next_length : length (take (suc r) (rows_of k E)) ≡ suc r
    next_length =
        length-take-le (suc r) (rows_of k E)
        (omega (arith, ap length (next_split k r E t), length-append (rows_of k t.first) (it ∷ gather (row_of k) id t.rest), t.rows))

    next_there : next_row k a.rows ≡ it
    unfolding next_row
    next_there =
        ap (λ (i : ℕ). take (row_width k) (drop i a.rows)) s.rows.end
        ∙ holds_get (row_width k) a.rows (take (suc r) (rows_of k E)) r s.rows r (omega (arith, next_length))
        ∙ get_or-take (suc r) (rows_of k E) r [] (omega arith)
        ∙ ap (λ (l : List Bytes). get_or l r []) (next_split k r E t)
        ∙ get_or_at (rows_of k t.first) it (gather (row_of k) id t.rest) [] r t.rows

    holds_it : holds_next k a.rows ≡ true
    unfolding holds_next
    holds_it =
        le-leb (counted a.rows + row_width k) (length a.rows)
        (omega (arith, s.rows.end, subst (λ (i : ℕ). 16 + row_width k * i ≤ length a.rows) next_length s.rows.room, mul-suc (row_width k) r))

    number_is : row_number it ≡ id
    number_is = row_number_lem k id (value_of t.it) (omega (arith, next_total k r E t, few k a E r c s))

    first_rows : row_list k a.rows ≡ rows_of k t.first
    first_rows = row_list_lem k a E r c s ∙ ap (take r) (next_split k r E t) ∙ take_at (rows_of k t.first) _ r t.rows

    above_last : ltb (last_number 0 (row_list k a.rows)) id ≡ true
    above_last =
        rw first_rows
        (lt-ltb (last_number 0 (rows_of k t.first)) id
        (omega (arith, last_le k 0 0 t.first (omega (arith, next_total k r E t, few k a E r c s)) (omega arith))))

    own_match : matches k (slot k (value_of t.it)) (value_of t.it) ≡ true
    own_match = matches_own k (value_of t.it) it_valid.value (sym (needs_row_lem k (value_of t.it) it_valid.value) ∙ t.needs)

    cuts_it : cuts k a.slots (count a) (last_number 0 (row_list k a.rows)) it ≡ true
    unfolding cuts
    cuts_it =
        rw (
          number_is,
          above_last,
          count_is k a E r c s,
          le-leb id (length E) (omega (arith, next_total k r E t)),
          slot_at_lem t.first t.it t.rest t.split,
          row_value_lem k id (value_of t.it) it_valid.value,
        ) own_match

    -- the row past the published ones cuts before its record
    pub cut_next : cut_rule k a ≡ length t.first
    unfolding cut_rule cut_for
    cut_next = rw (next_there, holds_it, cuts_it, number_is) (omega arith)

  -- where all rows are published, whatever stands past them cuts nothing
  module _ (q : r ≡ length (rows_of k E)) where
    all_rows : row_list k a.rows ≡ rows_of k E
    all_rows = row_list_lem k a E r c s ∙ rw q (take-length (rows_of k E))

    never : (x : Bytes) → cuts k a.slots (count a) (last_number 0 (row_list k a.rows)) x ≡ true → ⊥
    unfolding cuts
    never x h = contradict (row_number x) above inside matched
      where
        A : Bool
        A = ltb (last_number 0 (row_list k a.rows)) (row_number x)

        B : Bool
        B = leb (row_number x) (count a)

        C : Bool
        C = matches k (slot_at a.slots (row_number x)) (row_value k x)

        above : last_number 0 (rows_of k E) < row_number x
        above = rw all_rows at (ltb-true (last_number 0 (row_list k a.rows)) (row_number x) (both_left A B (both_left (A && B) C h)))

        inside : row_number x ≤ length E
        inside = rw (count_is k a E r c s) at (leb-true (row_number x) (count a) (both_right A B (both_left (A && B) C h)))

        matched : C ≡ true
        matched = both_right (A && B) C h

        contradict : (i : ℕ) → last_number 0 (rows_of k E) < i → i ≤ length E → matches k (slot_at a.slots i) (row_value k x) ≡ true → ⊥
        contradict zero p _ _ = absurd (not-suc-le-zero p)
        contradict (suc i) p g m = omega (arith, last_covers k (length (rows_of k (take i E))) E it (few k a E r c s), length-take-le i E (omega arith))
          where
            none : Entry
            none = record { start = 0; len = 0; span_start = 0; spans = 0 }

            parts : E ≡ take i E ++ (get_or E i none ∷ drop (suc i) E)
            parts = split_at E i none g

            slot_there : slot_at a.slots (suc i) ≡ slot k (value_of (get_or E i none))
            slot_there = rw (length-take-le i E (omega arith)) at (slot_at_lem (take i E) (get_or E i none) (drop (suc i) E) parts)

            it : NextRow k 0 (length (rows_of k (take i E))) E
            it = record {
              first = take i E;
              it = get_or E i none;
              rest = drop (suc i) E;
              split = parts;
              needs = matches_needs k (slot k (value_of (get_or E i none))) (row_value k x) (rw slot_there at m);
              rows = refl;
            }

    pub no_false_cut : cut_rule k a ≡ length E
    unfolding cut_rule cut_for
    no_false_cut =
        rw (not_true_is_false (cuts k a.slots (count a) (last_number 0 (row_list k a.rows)) (next_row k a.rows)) (never (next_row k a.rows)))
        (same (holds_next k a.rows) ∙ count_is k a E r c s)
      where
        same : (b : Bool) → cond b (count a) (count a) ≡ count a
        same true = refl
        same false = refl
