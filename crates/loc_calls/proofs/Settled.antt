-- Sizes never change; areas that hold a list whole are settled, and what refuses a call on them; creation.
-- An opening of areas that hold a list, whole or not, is never refused.
use Prim.Native.Nat.{ℕ, zero, suc, ◌+◌, ◌*◌, ◌/◌, ◌≤◌}
use mathlib.Core.Path.{◌≡◌, refl, sym, ap, ◌∙◌}
use mathlib.Core.Bool.{true, false}
use mathlib.Core.List.{List, [], ◌∷◌}
use native.Mathlib.Nat.{le_refl, not-suc-le-zero, le_of_suc-le-suc}
use native.Mathlib.Omega.{arith}
use lib.ListN.{length, take, get_or}
use borrow.Author.Tests.{le-ltb, eq-eqb}
use Rattle.loc_leaf.specs.declared.Kind.{Kind}
use Rattle.loc_leaf.specs.Answers.{refuse, ◌or_else◌}
use Rattle.loc_leaf.specs.Area.{counted}
use Rattle.loc_leaf.specs.Kind.{row_width, checkpoint_width}
use Rattle.loc_leaf.specs.Slot.{checkpoint_rule}
use Rattle.loc_leaf.specs.Rows.{row_list, rows_up_to}
use Rattle.loc_leaf.proofs.AreaLaws.{length_store_length, length_store_past}
use Rattle.loc_calls.specs.Areas.{Areas, sizes}
use Rattle.loc_calls.specs.Table.{Entry, Call, opening, append, truncate, read}
use Rattle.loc_calls.specs.Stores.{Place, keep, slot_length, row_length, checkpoint_length, write, step, run, differing, truncate_places, ruled_count, ruled, open_places, open_refusal, stores, any_stores, settled, gather, append_places}
use Rattle.loc_calls.specs.Calls.{unless_refused, too_small, first_refusal, unread, is_opening, table_of, refusal, places, place_count, create_places, create}
use Rattle.loc_calls.proofs.Holds.{holds_ragged, fresh}
use Rattle.loc_calls.proofs.Gathered.{slots_of, rows_of, checkpoints_of, AllValid, rows_ascend, ascend_take, rows_in_all}
use Rattle.loc_calls.proofs.State.{State, count_is, few, row_list_lem, checkpoint_fill, up_to, no_false_cut}
use Rattle.loc_calls.proofs.Opening.{Full, run_nil}

-- ---- sizes

pub sizes_step : (p : Place) (a : Areas) → sizes (step p a) ≡ sizes a
unfolding step sizes
sizes_step keep a = refl
sizes_step (slot_length v) a = rw (length_store_length v a.slots) refl
sizes_step (row_length v) a = rw (length_store_length v a.rows) refl
sizes_step (checkpoint_length v) a = rw (length_store_length v a.checkpoints) refl
sizes_step (write b) a = rw (length_store_past b.slots a.slots, length_store_past b.rows a.rows, length_store_past b.checkpoints a.checkpoints) refl

pub sizes_run : (s : ℕ) (ps : List Place) (a : Areas) → sizes (run s ps a) ≡ sizes a
unfolding run
sizes_run zero ps a = refl
sizes_run (suc s) [] a = refl
sizes_run (suc s) (p ∷ ps) a = sizes_run s ps (step p a) ∙ sizes_step p a

-- ---- places

-- a larger s than a call has places is the same as all
pub run_all : (s : ℕ) (ps : List Place) (a : Areas) → length ps ≤ s → run s ps a ≡ run (length ps) ps a
unfolding run
run_all s [] a h = run_nil s a
run_all zero (p ∷ ps) a h = absurd (not-suc-le-zero h)
run_all (suc s) (p ∷ ps) a h = run_all s ps (step p a) (le_of_suc-le-suc h)

-- one place more
pub run_next : (i : ℕ) (ps : List Place) (a : Areas) → run (suc i) ps a ≡ step (get_or ps i keep) (run i ps a)
unfolding run step
run_next zero [] a = refl
run_next zero (p ∷ ps) a = refl
run_next (suc i) [] a = refl
run_next (suc i) (p ∷ ps) a = run_next i ps (step p a)

pub length_places_lem : (k : Kind) (c : Call) (a : Areas) → length (places k c a) ≡ place_count c
unfolding places open_places truncate_places append_places
length_places_lem k opening a = refl
length_places_lem k (append b) a = refl
length_places_lem k (truncate w) a = refl
length_places_lem k (read ids out) a = refl

-- ---- opening never refuses areas that hold a list

module _ (k : Kind) (a : Areas) (E : List Entry) (r c : ℕ) (s : State k a E r c) where
  not_small : too_small a ≡ false
  unfolding too_small
  not_small = rw (le-ltb _ _ s.slots.big, le-ltb _ _ s.rows.big, le-ltb _ _ s.checkpoints.big) refl

  opens : open_refusal k a ≡ 0
  unfolding open_refusal
  opens =
      rw (
        holds_ragged 2 a.slots (slots_of k E) (length E) s.slots,
        holds_ragged (checkpoint_width k) a.checkpoints (take c (checkpoints_of k E)) c s.checkpoints,
        holds_ragged (row_width k) a.rows (take (suc r) (rows_of k E)) r s.rows,
        row_list_lem k a E r c s,
        ascend_take 0 r (rows_of k E) (rows_ascend k 0 0 E (omega (arith, few k a E r c s)) (omega arith)),
      ) refl

  pub opening_accepted : refusal k opening a ≡ 0
  unfolding refusal is_opening
  opening_accepted = rw (not_small, opens) refl

-- ---- areas that hold a list whole

module _ (k : Kind) (a : Areas) (E : List Entry) (s : Full k a E) where
  keeps : (place : ℕ → Place) (old v : ℕ) → old ≡ v → differing place old v ≡ keep
  unfolding differing
  keeps place old v h = rw (eq-eqb v old (sym h)) refl

  nothing_to_truncate : truncate_places k (length E) a ≡ keep ∷ keep ∷ keep ∷ []
  unfolding truncate_places
  nothing_to_truncate =
      rw (
        keeps checkpoint_length (counted a.checkpoints) (16 + checkpoint_width k * (length E / 1024)) s.checkpoints.end,
        keeps row_length (counted a.rows) (16 + row_width k * rows_up_to (length E) (row_list k a.rows)) (s.rows.end ∙ ap (λ (i : ℕ). 16 + row_width k * i) (sym all_rows)),
        keeps slot_length (counted a.slots) (16 + 2 * length E) s.slots.end,
      ) refl
    where
      all_rows : rows_up_to (length E) (row_list k a.rows) ≡ length (rows_of k E)
      all_rows = up_to k a E _ _ s (length E) ∙ omega (arith, rows_in_all k E)

  rule_is : ruled_count k a ≡ length E
  unfolding ruled_count checkpoint_rule
  rule_is = rw (count_is k a E _ _ s, checkpoint_fill k a E _ _ s, le-ltb (length E / 1024) (length E / 1024) (le_refl (length E / 1024))) refl

  ruled_same : ruled k a ≡ a
  unfolding ruled run step
  ruled_same = rw (rule_is, nothing_to_truncate) refl

  nothing_to_open : open_places k a ≡ keep ∷ keep ∷ keep ∷ keep ∷ keep ∷ keep ∷ []
  unfolding open_places
  nothing_to_open = rw (ruled_same, no_false_cut k a E _ _ s refl, rule_is, nothing_to_truncate) refl

  pub is_settled : settled k a ≡ true
  unfolding settled any_stores stores
  is_settled = rw (opens k a E _ _ s, nothing_to_open) refl

  -- a call that is no opening is refused by the table and, a reading, by 17
  pub refusal_is : (c : Call) → is_opening c ≡ false → refusal k c a ≡ table_of k a c or_else refuse (unread k a c) 17
  unfolding refusal
  refusal_is c h = rw (not_small k a E _ _ s, h, is_settled) refl

  -- neither 1 nor 6
  pub not_1_nor_6 : first_refusal k a ≡ 0
  not_1_nor_6 = rw (not_small k a E _ _ s, is_settled) refl

-- ---- creation

module _ (a : Areas) (gs : 16 ≤ length a.slots) (gr : 16 ≤ length a.rows) (gc : 16 ≤ length a.checkpoints) where
  pub created : (create a).areas ≡ run 3 create_places a
  unfolding create unless_refused too_small
  created = rw (le-ltb _ _ gs, le-ltb _ _ gr, le-ltb _ _ gc) refl

  -- it leaves the empty list, whole
  pub created_full : (k : Kind) → Full k (run 3 create_places a) []
  unfolding create_places run step gather AllValid
  created_full k = record {
    slots = fresh 2 a.slots gs;
    rows = fresh (row_width k) a.rows gr;
    checkpoints = fresh (checkpoint_width k) a.checkpoints gc;
    valid = tt;
  }
