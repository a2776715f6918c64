-- Append as a whole, in the form in which the code meets it: number, value and areas at once.
-- The places of a ready stage are those of the definition.
use Prim.Native.Nat.{ℕ}
use lib.ListN.{length}
use mathlib.Core.Path.{◌≡◌, refl, sym, ap, ◌∙◌}
use mathlib.Core.List.{List}
use Rattle.loc_leaf.specs.declared.Kind.{Kind}
use Rattle.std.specs.Prelude.{Ok, Err}
use Rattle.loc_leaf.specs.declared.refusal.Refusal.{Refusal}
use Rattle.loc_leaf.specs.Answers.{◌or_else◌, accepted_with, refused_by, number_of}
use Rattle.loc_leaf.specs.Area.{fill}
use Rattle.loc_calls.specs.Areas.{Areas, count}
use Rattle.loc_calls.specs.Table.{Entry, Batch, append}
use Rattle.loc_calls.specs.Stores.{Place, run, staged, append_places}
use Rattle.loc_calls.specs.Calls.{first_refusal, unread, is_opening, table_of, refusal, places, value, call}
use Rattle.loc_leaf.proofs.Refusals.{or_else_first, or_else_zero, number_some}
use Rattle.loc_calls.specs.Promises.{Stored}
use Rattle.loc_calls.proofs.Outcomes.{refused, accepted, refusal_after}
use Rattle.loc_store.specs.declared.Checked.{Checked}
use Rattle.loc_store.specs.Areas.{Checks}
use Rattle.loc_batch.specs.Lists.{batched, Held}
use Rattle.loc_append.specs.Plans.{stage_places, RoomPast, Ready, Planned}
use Rattle.loc_append.specs.declared.Stage.{Stage}

pub places_are : (k : Kind) (a : Areas) (es : List Entry) (t : Stage) → Ready k a es t → stage_places k es t ≡ append_places a (staged k (count a) es)
unfolding stage_places append_places staged
places_are k a es t r =
    rw (r.old_slots, r.old_rows, r.old_checkpoints, r.new_slots, r.new_rows, r.new_checkpoints, r.base) refl

-- the areas a are read, and d are the same lent to be stored to
module _ (k : Kind) (b : Batch) (p : ℕ) (a d : Areas) (same : a ≡ d) where
  append_number : (first : ℕ) → first ≡ first_refusal k a → refusal k (append b) a ≡ first or_else table_of k a (append b)
  unfolding is_opening unread
  append_number first e = refusal_after k (append b) a first refl e ∙ ap (λ (n : ℕ). first or_else n) (or_else_zero (table_of k a (append b)))

  pub append_refused : (x : Refusal) → number_of x ≡ first_refusal k a → Stored (call k p (append b) d) (refused_by (number_of x)) d
  append_refused x e =
      rw (← same) (refused k p (append b) a (number_of x) (append_number (number_of x) e ∙ or_else_first (number_of x) _ (number_some x)) (number_some x))

  module _ (o : Checked) (e : Checks k d (Ok o)) where
    table_number : (n : ℕ) → n ≡ table_of k a (append b) → refusal k (append b) a ≡ n
    table_number n h = append_number 0 (rw (← same) at e.number) ∙ sym h

    pub append_planned : (x : Refusal) → Planned k a b (Err x) → Stored (call k p (append b) d) (refused_by (number_of x)) d
    append_planned x q = rw (← same) (refused k p (append b) a (number_of x) (table_number (number_of x) q.number) (number_some x))

    module _ (t : Stage) (q : Planned k a b (Ok t)) where
      pub append_room : RoomPast k t.base (batched k b) d
      append_room = rw (← same) q.staging.ready.room

      pub append_held : Held k b (length b.lens)
      append_held = q.staging.held

      -- the areas x are left, of which the slots are read again
      pub append_done : (x y : Areas) (m : ℕ) → x ≡ run p (stage_places k (batched k b) t) d → y ≡ x → m ≡ fill 2 y.slots → Stored (call k p (append b) d) (accepted_with m) x
      unfolding places value count
      append_done x y m g ey em =
          rw (← same, em, ey) (accepted k p (append b) a x (table_number 0 q.number)
          (g ∙ rw (← same) (ap (λ (ps : List Place). run p ps a) (places_are k a (batched k b) t q.staging.ready
          ∙ ap (λ (l : List Entry). append_places a (staged k (count a) l)) (sym q.staging.entries)))))
