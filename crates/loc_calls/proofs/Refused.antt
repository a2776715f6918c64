-- Every number that a call gives is in the table, and a refusal leaves everything as it was.
-- What holds of each number of the table holds of the one that a call gives.
use Prim.Native.Nat.{ℕ, zero, suc, ◌*◌, ◌/◌, ◌%◌, ◌^◌, ◌≤◌}
use mathlib.Core.Path.{◌≡◌, refl, sym, ap, ◌∙◌}
use mathlib.Core.Bool.{Bool, true, false, cond, not, ◌&&◌}
use mathlib.Core.List.{List, [], ◌∷◌}
use native.Mathlib.Omega.{arith}
use lib.Dec.{leb, ltb, eqb}
use lib.ListN.{length, get_or}
use borrow.Author.Tests.{leb-true}
use Rattle.loc_leaf.specs.declared.Kind.{Kind}
use Rattle.loc_leaf.specs.declared.Kind.TheVariants.{Paired}
use Rattle.loc_leaf.specs.Answers.{refuse, ◌or_else◌, answer, Answer}
use Rattle.loc_leaf.specs.Kind.{row_width, checkpoint_width}
use Rattle.loc_leaf.specs.Slot.{strides_refusal}
use Rattle.loc_leaf.specs.Rows.{row_list, ascending}
use Rattle.loc_leaf.proofs.Booleans.{both_left, both_right}
use Rattle.loc_leaf.proofs.Refusals.{or_else_holds, refuse_holds}
use Rattle.loc_calls.specs.Areas.{Three, Areas, sizes, count}
use Rattle.loc_calls.specs.Table.{saturated, Call, opening, append, truncate, read, Entry, body_after, span_after, entries, word_width, uneven, spanless, breaks, entry_refusal, entries_refusal, ListEnd, start_refusal, end_past, batch_refusal, table}
use Rattle.loc_calls.specs.Stores.{ragged, open_refusal, settled, new_ends}
use Rattle.loc_calls.specs.Reading.{first_after, complete, within, words_for, end_read}
use Rattle.loc_calls.specs.Calls.{unless_refused, too_small, first_refusal, whole_refusal, unread, is_opening, table_of, refusal, call, create, audit}
use Rattle.loc_calls.specs.SpanAt.{Crossing, holds, refused_by, crossing, span_among, span_at, span_at_outcome}
use Rattle.loc_calls.specs.Parts.{some_below, strange, misplaced, needed, first_fault, pairs_refusal, parts_table, parts_refusal, parts}
use Rattle.loc_calls.specs.Withheld.{withheld}
use Rattle.loc_calls.specs.Promises.{Stored}
use Rattle.loc_calls.specs.Guarantees.{index_call, creation, auditing, locating, composing, limiting, outcome, lent_to, largest, InTable, NumbersOfTable, LeavesAll, RefusalsLeaveAll}
use Rattle.loc_calls.proofs.Outcomes.{refused}

-- ---- the table's numbers

-- what holds of 0, of 7 to 16, of 22 to 24 and, where the last record cannot be read, of 17 holds of the number that the table gives
module _ (P : ℕ → Type 0) (none : P 0) (each : (n : ℕ) → 7 ≤ n → n ≤ 16 → P n) (later : (n : ℕ) → 22 ≤ n → n ≤ 24 → P n) where
  tested_from : (l u n : ℕ) (b : Bool) → ((n : ℕ) → l ≤ n → n ≤ u → P n) → (leb l n && leb n u) ≡ true → P (refuse b n)
  tested_from l u n b p h = refuse_holds P n b none (p n (leb-true l n (both_left (leb l n) (leb n u) h)) (leb-true n u (both_right (leb l n) (leb n u) h)))

  tested : (n : ℕ) (b : Bool) → (leb 7 n && leb n 16) ≡ true → P (refuse b n)
  tested n b h = tested_from 7 16 n b each h

  tested_later : (n : ℕ) (b : Bool) → (leb 22 n && leb n 24) ≡ true → P (refuse b n)
  tested_later n b h = tested_from 22 24 n b later h

  breaks_holds : (e : Entry) (es : List Entry) → P (breaks e es)
  unfolding breaks
  breaks_holds e [] = none
  breaks_holds e (d ∷ ds) = or_else_holds P (tested 11 (not (eqb d.start (body_after e))) refl) (tested 12 (not (eqb d.span_start (span_after e))) refl)

  strides_holds : (len : ℕ) → P (strides_refusal len)
  unfolding strides_refusal
  strides_holds len = or_else_holds P (tested_later 22 (eqb len 0) refl) (or_else_holds P (tested 9 (not (eqb (len % 8) 0)) refl) (tested 10 (leb (2 ^ 32) (len / 8)) refl))

  entries_holds : (k : Kind) (es : List Entry) → P (entries_refusal k es)
  unfolding entries_refusal entry_refusal
  entries_holds k [] = none
  entries_holds k (e ∷ es) =
      or_else_holds P (or_else_holds P (tested 8 (spanless k e) refl) (or_else_holds P (strides_holds e.len) (breaks_holds e es))) (entries_holds k es)

  unread_holds : (b : Bool) → (b ≡ true → P 17) → P (refuse b 17)
  unread_holds true h = h refl
  unread_holds false h = none

  module _ (end : ListEnd) (missing : end.unread ≡ true → P 17) where
    start_holds : (e : Entry) → P (start_refusal end e)
    unfolding start_refusal
    start_holds e =
        or_else_holds P (unread_holds end.unread missing)
        (or_else_holds P (tested_later 23 (not (eqb e.start (saturated end.body))) refl) (tested_later 24 (not (eqb e.span_start (saturated end.span))) refl))

    batch_holds : (k : Kind) (ends size : Three ℕ) (es : List Entry) → P (batch_refusal k end ends size es)
    unfolding batch_refusal
    batch_holds k ends size [] = none
    batch_holds k ends size (e ∷ es) = or_else_holds P (start_holds e) (or_else_holds P (entries_holds k (e ∷ es)) (tested 13 (end_past ends size) refl))

    pub table_holds : (k : Kind) (n : ℕ) (ends : List Entry → Three ℕ) (size : Three ℕ) (c : Call) → P (table k n end ends size c)
    unfolding table
    table_holds k n ends size opening = none
    table_holds k n ends size (append b) = or_else_holds P (tested 7 (uneven k b) refl) (batch_holds k (ends (entries k b)) size (entries k b))
    table_holds k n ends size (truncate w) = tested 14 (ltb n w) refl
    table_holds k n ends size (read ids out) = or_else_holds P (tested 15 (ltb 1024 (length ids)) refl) (tested 16 (ltb (length out) (word_width k * length ids)) refl)

-- ---- every call's number

abbrev Numbered : ℕ → Type 0
Numbered n = n ≤ largest

pub test : (n : ℕ) (b : Bool) → leb n largest ≡ true → refuse b n ≤ largest
test n b h = refuse_holds Numbered n b (omega arith) (leb-true n largest h)

pub first : {x y : ℕ} → x ≤ largest → y ≤ largest → (x or_else y) ≤ largest
first p q = or_else_holds Numbered p q

table_in : (k : Kind) (a : Areas) (c : Call) → Numbered (table_of k a c)
table_in k a c = table_holds Numbered (omega arith) (λ n g l. omega arith) (λ n g l. omega arith) (end_read k a) (λ h. omega arith) k (count a) (new_ends k a) (sizes a) c

open_in : (k : Kind) (a : Areas) → Numbered (open_refusal k a)
unfolding open_refusal
open_in k a =
    first (test 2 (ragged 2 a.slots) refl)
    (first (test 3 (ragged (checkpoint_width k) a.checkpoints) refl)
    (first (test 4 (ragged (row_width k) a.rows) refl) (test 5 (not (ascending 0 (row_list k a.rows))) refl)))

small_in : (a : Areas) → Numbered (refuse (too_small a) 1)
small_in a = test 1 (too_small a) refl

unsettled_in : (k : Kind) (a : Areas) → Numbered (refuse (not (settled k a)) 6)
unsettled_in k a = test 6 (not (settled k a)) refl

pub first_in_lem : (k : Kind) (a : Areas) → first_refusal k a ≤ largest
first_in_lem k a = first (small_in a) (unsettled_in k a)

refusal_in : (k : Kind) (c : Call) (a : Areas) → Numbered (refusal k c a)
unfolding refusal
refusal_in k c a = first (small_in a) (go (is_opening c))
  where
    go : (b : Bool) → Numbered (cond b (open_refusal k a) (refuse (not (settled k a)) 6 or_else table_of k a c or_else refuse (unread k a c) 17))
    go true = open_in k a
    go false = first (unsettled_in k a) (first (table_in k a c) (test 17 (unread k a c) refl))

-- the number of an answer
pub number_is : (n v : ℕ) → (answer n v).number ≡ n
unfolding answer
number_is zero v = refl
number_is (suc n) v = refl

pub whole_in : (k : Kind) (a : Areas) → whole_refusal k a ≤ largest
unfolding whole_refusal
whole_in k a = first (first_in_lem k a) (test 17 (not (complete k a 0 (count a))) refl)

located_in : (a : Areas) (x : ℕ) → Numbered (span_at a x).number
unfolding span_at span_among unless_refused crossing
located_in a x = go (whole_refusal Paired a) (first_after (holds (words_for Paired a) x) 0 (count a)) (whole_in Paired a)
  where
    go : (n id : ℕ) → Numbered n → Numbered (unless_refused n (crossing (words_for Paired a) x id) (refused_by n)).number
    go zero zero h = omega arith
    go zero (suc id) h = omega arith
    go (suc n) id h = h

composed_in : (cs ps : List ℕ) (x : ℕ) (out : List ℕ) (a : Areas) → Numbered (parts_refusal cs ps x out a)
unfolding parts_refusal parts_table pairs_refusal first_fault
composed_in cs ps x out a =
    first (first_in_lem Paired a)
    (first
    (first (test 7 (not (eqb (length cs) (length ps))) refl)
    (first (test 15 (ltb 1024 (length cs)) refl)
    (first (test 27 (not (within (count a) x)) refl)
    (first (test 27 (some_below (λ i. strange (count a) (get_or cs i 0) (get_or ps i 0)) (length cs)) refl)
    (first (test 28 (some_below (λ i. leb (get_or cs i 0) (get_or ps i 0)) (length cs)) refl) (test 29 (some_below (misplaced cs ps) (length cs)) refl))))))
    (test 16 (ltb (length out) (length (needed cs ps x))) refl))

pub numbers_of_table : NumbersOfTable
unfolding NumbersOfTable InTable outcome call create audit span_at_outcome parts withheld
numbers_of_table (index_call k s c) a = rw number_is (refusal_in k c a)
numbers_of_table creation a = rw number_is (small_in a)
numbers_of_table (auditing k) a = rw number_is (first_in_lem k a)
numbers_of_table (locating x) a = rw number_is (located_in a x)
numbers_of_table (composing cs ps x out) a = rw number_is (composed_in cs ps x out a)
numbers_of_table (limiting k d) a = rw number_is (first_in_lem k a)

-- ---- refusals

value_0 : (n v : ℕ) → ((answer n v).number ≡ 0 → ⊥) → (answer n v).value ≡ 0
unfolding answer
value_0 zero v h = absurd (h refl)
value_0 (suc n) v h = refl

kept : {A : Type 0} (n v : ℕ) (new old : A) → ((answer n v).number ≡ 0 → ⊥) → unless_refused n new old ≡ old
unfolding answer unless_refused
kept zero v new old h = absurd (h refl)
kept (suc n) v new old h = refl

-- all three words are 0
none_located : (a : Areas) (x : ℕ) → ((span_at a x).number ≡ 0 → ⊥) → span_at a x ≡ refused_by (span_at a x).number
unfolding span_at span_among unless_refused crossing
none_located a x = go (whole_refusal Paired a) (first_after (holds (words_for Paired a) x) 0 (count a))
  where
    given : ℕ → ℕ → Crossing
    given n id = unless_refused n (crossing (words_for Paired a) x id) (refused_by n)

    go : (n id : ℕ) → ((given n id).number ≡ 0 → ⊥) → given n id ≡ refused_by (given n id).number
    go zero zero h = refl
    go zero (suc id) h = absurd (h refl)
    go (suc n) id h = refl

pub refusals_leave_all : RefusalsLeaveAll
unfolding RefusalsLeaveAll LeavesAll outcome lent_to call create audit span_at_outcome parts withheld
refusals_leave_all (index_call k s c) a h = record { value = ap (λ (r : Answer). r.value) (sym left.0); buffer = kept (refusal k c a) _ _ _ h; areas = sym left.1 }
  where
    left : Stored (call k s c a) (record { number = refusal k c a; value = 0 }) a
    left = refused k s c a (refusal k c a) refl (λ e. h (number_is (refusal k c a) _ ∙ e))
refusals_leave_all creation a h = record { value = value_0 (refuse (too_small a) 1) 0 h; buffer = refl; areas = kept (refuse (too_small a) 1) 0 _ a h }
refusals_leave_all (auditing k) a h = record { value = value_0 (first_refusal k a) _ h; buffer = refl; areas = refl }
refusals_leave_all (locating x) a h = record {
  value = value_0 _ 0 h;
  buffer = ap (λ (r : Crossing). r.«record» ∷ r.index ∷ r.remainder ∷ []) (none_located a x (λ e. h (number_is _ 0 ∙ e)));
  areas = refl;
}
refusals_leave_all (composing cs ps x out) a h = record { value = value_0 (parts_refusal cs ps x out a) _ h; buffer = kept (parts_refusal cs ps x out a) _ _ out h; areas = refl }
refusals_leave_all (limiting k d) a h = record { value = value_0 (first_refusal k a) _ h; buffer = refl; areas = refl }
