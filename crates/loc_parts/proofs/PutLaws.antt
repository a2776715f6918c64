-- The call in the form in which the code meets it: number, value and answer buffer at once.
-- A refusal leaves the buffer.
use Prim.Native.Nat.{ℕ, zero, suc, ◌≤◌, ◌<◌}
use mathlib.Core.Path.{◌≡◌, refl, sym, ap, ◌∙◌}
use mathlib.Core.List.{List, ◌++◌}
use lib.Dec.{ltb}
use lib.ListN.{length, take, drop}
use lib.Seq.{length-take-le}
use borrow.Author.Tests.{lt-ltb, le-ltb}
use Rattle.loc_leaf.specs.declared.Kind.TheVariants.{Paired}
use Rattle.loc_leaf.specs.declared.refusal.Refusal.{Refusal}
use Rattle.loc_leaf.specs.Answers.{refuse, ◌or_else◌, accepted_with, refused_by, answer, Answer, number_of}
use Rattle.loc_leaf.specs.Area.{fill}
use Rattle.loc_leaf.proofs.Refusals.{or_else_first, number_some}
use Rattle.loc_calls.specs.Areas.{Areas, count}
use Rattle.loc_calls.specs.Calls.{unless_refused, first_refusal}
use Rattle.loc_calls.specs.Parts.{needed, pairs_refusal, parts_table, Fit, written, parts_refusal, parts}
use Rattle.loc_calls.specs.Promises.{Read}
use Rattle.loc_calls.proofs.Needed.{pairs_fit}
use Rattle.loc_parts.specs.Put.{Put}

-- ---- 16, or the answers

module _ (found list out : List ℕ) (n : ℕ) (e : take n list ≡ found) (h : n ≤ length list) where
  found_long : length found ≡ n
  found_long = ap length (sym e) ∙ length-take-le n list h

  pub put_short : length out < n → Put found out (refused_by 16) out
  unfolding answer unless_refused
  put_short s = record { answer = rw (found_long, lt-ltb (length out) n s) refl; buffer = rw (found_long, lt-ltb (length out) n s) refl }

  pub put_found : n ≤ length out → (front : List ℕ) → front ≡ take n list → Put found out (accepted_with n) (front ++ drop n out)
  unfolding answer unless_refused written
  put_found s front q = record {
    answer = rw (found_long, le-ltb (length out) n s) refl;
    buffer = rw (found_long, le-ltb (length out) n s) (ap (λ (l : List ℕ). l ++ drop n out) (q ∙ e));
  }

-- ---- the call

module _ (a : Areas) (cs ps : List ℕ) (x : ℕ) (out : List ℕ) where
  refused_number : (n : ℕ) → parts_refusal cs ps x out a ≡ n → (n ≡ 0 → ⊥) → Read (parts cs ps x out a) (refused_by n) out
  unfolding parts answer unless_refused
  refused_number zero e h = absurd (h refl)
  refused_number (suc n) e h = (rw e refl, rw e refl)

  refused : (y : Refusal) → parts_refusal cs ps x out a ≡ number_of y → Read (parts cs ps x out a) (refused_by (number_of y)) out
  refused y e = refused_number (number_of y) e (number_some y)

  -- 1 or 6
  pub parts_first : (y : Refusal) → number_of y ≡ first_refusal Paired a → Read (parts cs ps x out a) (refused_by (number_of y)) out
  unfolding parts_refusal
  parts_first y e = refused y (rw (← e) (or_else_first (number_of y) _ (number_some y)))

  module _ (z : 0 ≡ first_refusal Paired a) (n : ℕ) (en : n ≡ fill 2 a.slots) where
    number_is : (late : ℕ) → late ≡ pairs_refusal n cs ps x → parts_refusal cs ps x out a ≡ (late or_else refuse (ltb (length out) (length (needed cs ps x))) 16)
    unfolding parts_refusal parts_table count
    number_is late el = rw (← z, ← en, ← el) refl

    -- 7, 15, 27, 28, 29
    pub parts_late : (y : Refusal) → number_of y ≡ pairs_refusal n cs ps x → Read (parts cs ps x out a) (refused_by (number_of y)) out
    parts_late y el = refused y (number_is (number_of y) el ∙ or_else_first (number_of y) _ (number_some y))

    pub parts_done : 0 ≡ pairs_refusal n cs ps x → (r : Answer) (new : List ℕ) → Put (needed cs ps x) out r new → Read (parts cs ps x out a) r new
    unfolding parts
    parts_done el r new w =
        let q : parts_refusal cs ps x out a ≡ refuse (ltb (length out) (length (needed cs ps x))) 16 = number_is 0 el in
        (rw q w.answer, rw q w.buffer)

pub tested_fit : (n : ℕ) (cs ps : List ℕ) (x : ℕ) → 0 ≡ pairs_refusal n cs ps x → Fit cs ps
tested_fit n cs ps x e = pairs_fit n cs ps x (sym e)
