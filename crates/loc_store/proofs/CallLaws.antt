-- Create, open and truncate in the form in which the code meets them: number, value and areas at once.
-- A refusal leaves the areas; an accepted call has made the stores of its first places.
use Prim.Native.Nat.{ℕ, ◌^◌, ◌≤◌, ◌<◌}
use mathlib.Core.Path.{◌≡◌, refl, sym, ◌∙◌}
use mathlib.Core.Bool.{Bool, true, false}
use native.Mathlib.Omega.{arith}
use Rattle.std.specs.Prelude.{Ok}
use lib.Dec.{ltb}
use lib.ListN.{length}
use borrow.Author.Tests.{lt-ltb, le-ltb}
use Rattle.loc_leaf.specs.declared.Kind.{Kind}
use Rattle.loc_leaf.specs.Bytes.{Bytes}
use Rattle.loc_leaf.specs.declared.refusal.Refusal.{Refusal}
use Rattle.loc_leaf.specs.Answers.{refuse, ◌or_else◌, accepted_with, refused_by, number_of, answer}
use Rattle.loc_leaf.specs.Area.{counted, store_length, fill}
use Rattle.loc_leaf.proofs.Refusals.{or_else_first, number_some}
use Rattle.loc_calls.specs.Areas.{Areas, each, count, areas}
use Rattle.loc_calls.specs.Table.{opening, truncate, table}
use Rattle.loc_calls.specs.Stores.{step, run, truncate_places, open_places, open_refusal}
use Rattle.loc_calls.specs.Calls.{unless_refused, too_small, first_refusal, unread, is_opening, refusal, places, value, call, create_places, create}
use Rattle.loc_calls.specs.Promises.{Stored}
use Rattle.loc_calls.proofs.Outcomes.{refused, accepted, refusal_after}
use Rattle.loc_store.specs.declared.Lengths.{Lengths}
use Rattle.loc_store.specs.declared.Rules.{Rules}
use Rattle.loc_store.specs.declared.Published.{Published}
use Rattle.loc_store.specs.declared.Checked.{Checked}
use Rattle.loc_store.specs.Areas.{Publishes, Checks}
use Rattle.loc_store.specs.Plans.{lengths_of, lengths_for, length_places, rules_places, rules_for}
use Rattle.loc_store.proofs.RuleLaws.{rule_le, open_places_lem}
use Rattle.loc_store.proofs.SettledLaws.{not_small, opened_ascends}

-- ---- truncation

-- the areas a are read, and d are the same lent to be stored to
module _ (k : Kind) (w p : ℕ) (a d : Areas) (same : a ≡ d) where
  pub truncate_refused : (x : Refusal) → number_of x ≡ first_refusal k a → Stored (call k p (truncate w) d) (refused_by (number_of x)) d
  unfolding is_opening
  truncate_refused x e =
      rw (← same) (refused k p (truncate w) a (number_of x)
      (refusal_after k (truncate w) a (number_of x) refl e ∙ or_else_first (number_of x) _ (number_some x)) (number_some x))

  module _ (o : Checked) (e : Checks k a (Ok o)) where
    truncate_number : refusal k (truncate w) a ≡ (refuse (ltb (fill 2 a.slots) w) 14 or_else 0)
    unfolding is_opening table unread count
    truncate_number = refusal_after k (truncate w) a 0 refl e.number

    pub truncate_past : o.count < w → Stored (call k p (truncate w) d) (refused_by 14) d
    truncate_past h =
        rw (← same) (refused k p (truncate w) a 14 (truncate_number ∙ rw (← e.found.count, lt-ltb o.count w h) refl) (λ q. omega arith))

    -- the areas b are left, of which the slots are read again
    pub truncate_done : (t : Lengths) (b c : Areas) (m : ℕ) → w ≤ o.count → t ≡ lengths_for k w a.rows → b ≡ run p (length_places o.ends t) d
        → c ≡ b → m ≡ fill 2 c.slots → Stored (call k p (truncate w) d) (accepted_with m) b
    unfolding places value count truncate_places length_places lengths_for
    truncate_done t b c m h et q ec em =
        rw (← same, em, ec) (accepted k p (truncate w) a b (truncate_number ∙ rw (← e.found.count, le-ltb o.count w h) refl)
        (q ∙ rw (← same, et, e.found.ends.slots, e.found.ends.rows, e.found.ends.checkpoints) refl))

-- ---- opening

module _ (k : Kind) (p : ℕ) (a d : Areas) (same : a ≡ d) (b : Bool) (e : b ≡ too_small a) where
  pub open_small : b ≡ true → Stored (call k p opening d) (refused_by 1) d
  unfolding refusal
  open_small h = rw (← same) (refused k p opening a 1 (rw (← e, h) refl) (λ q. omega arith))

  module _ (h : b ≡ false) where
    open_number : refusal k opening a ≡ open_refusal k a
    unfolding refusal is_opening
    open_number = rw (← e, h) refl

    pub open_refused : (x : Refusal) → number_of x ≡ open_refusal k a → Stored (call k p opening d) (refused_by (number_of x)) d
    open_refused x er = rw (← same) (refused k p opening a (number_of x) (open_number ∙ sym er) (number_some x))

    pub open_done : 0 ≡ open_refusal k a → (f : Published) → Publishes k a f → length a.slots < 2 ^ 64 → length a.rows < 2 ^ 64 → length a.checkpoints < 2 ^ 64
        → (old : Lengths) → (old.slots ≡ f.slots.end) × (old.rows ≡ f.rows.end) × (old.checkpoints ≡ f.checkpoints.end)
        → (t : Rules) (x y : Areas) (m : ℕ) → t ≡ rules_for k a → x ≡ run p (rules_places old t) d → y ≡ x → m ≡ fill 2 y.slots
        → Stored (call k p opening d) (accepted_with m) x
    unfolding places value count
    open_done z f q ls lr lc old eo t x y m et ex ey em =
        rw (← same, em, ey) (accepted k p opening a x (open_number ∙ sym z) (ex ∙ rw (← same, ends_are, et, planned) refl))
      where
        ends_are : old ≡ lengths_of (each counted a)
        ends_are = rw (eo.0 ∙ q.slots.end, eo.1 ∙ q.rows.end, eo.2 ∙ q.checkpoints.end) refl

        planned : open_places k a ≡ rules_places (lengths_of (each counted a)) (rules_for k a)
        planned =
            open_places_lem k a.slots a.rows a.checkpoints (not_small a.slots a.rows a.checkpoints b e h) ls lr
            (opened_ascends k a.slots a.rows a.checkpoints (sym z)) f q _ refl (rule_le f.slots.count f.checkpoints.count) lc

-- ---- creation

module _ (s r c : Bytes) (b : Bool) (e : b ≡ too_small (areas s r c)) where
  pub create_small : b ≡ true → Stored (create (areas s r c)) (refused_by 1) (areas s r c)
  unfolding create answer unless_refused
  create_small h = (rw (← e, h) refl, rw (← e, h) refl)

  pub create_done : (x y z : Bytes) → b ≡ false → x ≡ store_length 16 s → y ≡ store_length 16 r → z ≡ store_length 16 c
      → Stored (create (areas s r c)) (accepted_with 0) (areas x y z)
  unfolding create create_places answer unless_refused run step
  create_done x y z h p q t = (rw (← e, h) refl, rw (← e, h, p, q, t) refl)
