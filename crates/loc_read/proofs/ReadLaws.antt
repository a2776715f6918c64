-- A reading in the form in which the code meets it: number, value and answer buffer at once.
-- 1, 6; 15, 16; 17; then an answer for each wanted number.
use Prim.Native.Nat.{ℕ, ◌+◌, ◌-◌, ◌*◌, ◌^◌, ◌≤◌, ◌<◌}
use mathlib.Core.Path.{◌≡◌, refl, sym, ap, ◌∙◌}
use mathlib.Core.List.{List, ◌++◌}
use native.Mathlib.Omega.{arith}
use lib.Dec.{ltb}
use lib.ListN.{length, take, drop, length-drop, take-append-drop}
use lib.Seq.{ext_get_or, get_or-drop}
use borrow.Author.Tests.{lt-ltb, le-ltb}
use Rattle.loc_leaf.specs.declared.Kind.{Kind}
use Rattle.loc_leaf.specs.declared.refusal.Refusal.{Refusal}
use Rattle.loc_leaf.specs.Answers.{refuse, ◌or_else◌, accepted_with, refused_by, number_of}
use Rattle.loc_leaf.proofs.Refusals.{or_else_first, number_some}
use Rattle.loc_calls.specs.Areas.{Areas, count}
use Rattle.loc_calls.specs.Table.{read, table, word_width}
use Rattle.loc_calls.specs.Reading.{within, any_missing, found}
use Rattle.loc_calls.specs.Calls.{first_refusal, unread, is_opening, refusal, call}
use Rattle.loc_calls.specs.Promises.{Read}
use Rattle.loc_calls.proofs.Outcomes.{read_refused, read_accepted, refusal_after}
use Rattle.loc_order.specs.Order.{All}
use Rattle.loc_order.specs.Keys.{places_from, KeyOf}
use Rattle.loc_order.proofs.KeyLaws.{places_length, found_all}
use Rattle.loc_answer.specs.Words.{SamePast}
use Rattle.loc_answer.proofs.AnswerLaws.{answered_is}
use Rattle.loc_store.specs.declared.Checked.{Checked}
use Rattle.loc_store.specs.Areas.{Finds}
use Rattle.loc_store.proofs.SettledLaws.{accepted_sized, accepted_ascends}
use Rattle.loc_read.specs.Walk.{Readable, Answered, Finished}
use Rattle.loc_read.specs.Read.{Tested}
use Rattle.loc_runs.proofs.RunLaws.{key_within, own_number}

-- words that are as they were from a place on
straight : (x : ℕ) (old new : List ℕ) → length new ≡ length old → SamePast x old new → new ≡ take x new ++ drop x old
straight x old new long same =
    sym (take-append-drop x new)
    ∙ ap (λ (l : List ℕ). take x new ++ l)
    (ext_get_or 0 (drop x new) (drop x old) (length-drop x new ∙ ap (λ (n : ℕ). n - x) long ∙ sym (length-drop x old))
    (λ i h. get_or-drop x new i 0 ∙ same (x + i) (omega arith) ∙ sym (get_or-drop x old i 0)))

-- what the walk asks
pub readable : (k : Kind) (a : Areas) (f : Checked) → 0 ≡ first_refusal k a → Finds k a f → length a.slots < 2 ^ 64 → Readable k a f.count f.row_count
unfolding count
readable k a f z e l =
    record {
      counted = e.count;
      room = omega (arith, e.room, hold);
      low = omega (arith, e.room, hold);
      rise = record { ascend = accepted_ascends k a z; counted = e.rows };
    }
  where
    hold : 16 ≤ length a.slots
    hold = (accepted_sized k a z).slots_hold

module _ (k : Kind) (a : Areas) (ids out : List ℕ) where
  -- 1 or 6
  pub read_first : (x : Refusal) → number_of x ≡ first_refusal k a → Read (call k 0 (read ids out) a) (refused_by (number_of x)) out
  unfolding is_opening
  read_first x e =
      read_refused k a ids out (number_of x) (refusal_after k (read ids out) a (number_of x) refl e ∙ or_else_first (number_of x) _ (number_some x)) (number_some x)

  module _ (z : 0 ≡ first_refusal k a) where
    number_is : refusal k (read ids out) a
        ≡ (refuse (ltb 1024 (length ids)) 15 or_else refuse (ltb (length out) (word_width k * length ids)) 16) or_else refuse (any_missing k a ids) 17
    unfolding is_opening table unread
    number_is = refusal_after k (read ids out) a 0 refl z

    pub read_15 : 1024 < length ids → Read (call k 0 (read ids out) a) (refused_by 15) out
    read_15 h = read_refused k a ids out 15 (number_is ∙ rw (lt-ltb 1024 (length ids) h) refl) (λ q. omega arith)

    module _ (w : ℕ) (ew : w ≡ word_width k) (few : length ids ≤ 1024) where
      pub read_16 : length out < w * length ids → Read (call k 0 (read ids out) a) (refused_by 16) out
      read_16 h =
          read_refused k a ids out 16
          (number_is ∙ rw (le-ltb 1024 (length ids) few, ← ew, lt-ltb (length out) (w * length ids) h) refl)
          (λ q. omega arith)

      pub read_tested : (f : Checked) → Finds k a f → w * length ids ≤ length out → length a.slots < 2 ^ 64 → Tested k a f ids out
      read_tested f e h l = record { opened = z; readable = readable k a f z e l; few = few; room = rw (← ew) h }

module _ (k : Kind) (a : Areas) (o : Checked) (ids out : List ℕ) (t : Tested k a o ids out) where
  tested_number : refusal k (read ids out) a ≡ refuse (any_missing k a ids) 17
  tested_number =
      number_is k a ids out t.opened
      ∙ rw (le-ltb 1024 (length ids) t.few, le-ltb (length out) (word_width k * length ids) t.room) refl

  pub read_17 : (x : Refusal) (stage : List ℕ) → Finished k a ids stage (number_of x) → Read (call k 0 (read ids out) a) (refused_by (number_of x)) out
  read_17 x stage f = read_refused k a ids out (number_of x) (tested_number ∙ sym f.refused) (number_some x)

  pub read_done : (stage : List ℕ) → Finished k a ids stage 0 → (w v : ℕ) (new : List ℕ) → w ≡ word_width k → w * length ids ≤ length stage → v ≡ found o.count ids
      → new ≡ take (w * length ids) stage ++ drop (w * length ids) out → Read (call k 0 (read ids out) a) (accepted_with v) new
  unfolding Answered
  read_done stage f w v new ew long ev en =
      read_accepted k a ids out v new (tested_number ∙ sym f.refused) (rw (← t.readable.counted) ev)
      (answered_is k a ids stage out new (rw (← ew) long) (f.answered refl) (rw (← ew) en))

  -- answers that went straight into the buffer
  pub read_own : (new : List ℕ) → All (KeyOf o.count ids) (places_from 0 (length ids)) → Finished k a ids new 0 → length new ≡ length out
      → SamePast (word_width k * length ids) out new → Read (call k 0 (read ids out) a) (accepted_with (length ids)) new
  read_own new ks f long same =
      read_done new f (word_width k) (length ids) new refl (omega (arith, t.room))
      (sym (found_all o.count ids (λ p h. ap (within o.count) (sym (own_number ids t.few p h)) ∙ key_within o.count ids (places_from 0 (length ids)) ks p (omega (arith, places_length 0 (length ids))))))
      (straight (word_width k * length ids) out new long same)

-- words that fit, by the width that the code has
pub words_fit : (w v l x y : ℕ) → w ≡ v → v * l ≤ x → y ≡ x → w * l ≤ y
words_fit w v l x y e h q = rw (e, q) h
