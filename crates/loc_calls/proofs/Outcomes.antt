-- A call in the form in which code meets it: its answer and what it leaves, at once.
-- A refusal leaves everything; an accepted call has made its stores, or stored its answers.
use Prim.Native.Nat.{ℕ, zero, suc}
use mathlib.Core.Path.{◌≡◌, refl, sym}
use mathlib.Core.Bool.{false, not}
use mathlib.Core.List.{List}
use Rattle.loc_leaf.specs.declared.Kind.{Kind}
use Rattle.loc_leaf.specs.Answers.{refuse, ◌or_else◌, refused_by, answer}
use Rattle.loc_leaf.proofs.Refusals.{or_else_assoc}
use Rattle.loc_calls.specs.Areas.{Areas, count}
use Rattle.loc_calls.specs.Table.{Call, read}
use Rattle.loc_calls.specs.Stores.{run, settled}
use Rattle.loc_calls.specs.Reading.{words_for, answered, found}
use Rattle.loc_calls.specs.Calls.{unless_refused, too_small, first_refusal, unread, is_opening, table_of, refusal, places, value, lent, buffer, areas_after, call}
use Rattle.loc_calls.specs.Promises.{Stored, Read}

module _ (k : Kind) (s : ℕ) (c : Call) (a : Areas) where
  pub refused : (n : ℕ) → refusal k c a ≡ n → (n ≡ 0 → ⊥) → Stored (call k s c a) (record { number = n; value = 0 }) a
  unfolding call areas_after unless_refused answer
  refused zero e h = absurd (h refl)
  refused (suc n) e h = (rw e refl, rw e refl)

  pub accepted : (d : Areas) → refusal k c a ≡ 0 → d ≡ run s (places k c a) a → Stored (call k s c a) (record { number = 0; value = value c (count d) }) d
  unfolding call areas_after unless_refused answer
  accepted d e q = (rw (e, ← q) refl, rw e q)

-- a refusal's answer, whatever value its call would give
pub answer_refused : (n v : ℕ) → (n ≡ 0 → ⊥) → answer n v ≡ refused_by n
unfolding answer
answer_refused zero v h = absurd (h refl)
answer_refused (suc n) v h = refl

-- 1, then 6, then the table and 17
pub refusal_after : (k : Kind) (c : Call) (a : Areas) (n : ℕ) → is_opening c ≡ false → n ≡ first_refusal k a
    → refusal k c a ≡ n or_else (table_of k a c or_else refuse (unread k a c) 17)
unfolding refusal
refusal_after k c a n h e =
    rw (h, e) (sym (or_else_assoc (refuse (too_small a) 1) (refuse (not (settled k a)) 6) (table_of k a c or_else refuse (unread k a c) 17)))

module _ (k : Kind) (a : Areas) (ids out : List ℕ) where
  pub read_refused : (n : ℕ) → refusal k (read ids out) a ≡ n → (n ≡ 0 → ⊥) → Read (call k 0 (read ids out) a) (record { number = n; value = 0 }) out
  unfolding call unless_refused answer lent
  read_refused zero e h = absurd (h refl)
  read_refused (suc n) e h = (rw e refl, rw e refl)

  pub read_accepted : (v : ℕ) (new : List ℕ) → refusal k (read ids out) a ≡ 0 → v ≡ found (count a) ids → new ≡ answered (words_for k a) ids out
      → Read (call k 0 (read ids out) a) (record { number = 0; value = v }) new
  unfolding call areas_after unless_refused answer places run value buffer
  read_accepted v new e ev en = (rw (e, ev) refl, rw (e, en) refl)
