-- What an append leaves at each of its places, and what any bytes past the published ends leave.
-- One law for an area serves slots, rows and checkpoints.
use Prim.Native.Nat.{ℕ, suc, ◌+◌, ◌*◌, ◌/◌, ◌^◌, ◌≤◌, ◌<◌}
use mathlib.Core.Path.{◌≡◌, refl, sym, ap, ◌∙◌, subst}
use mathlib.Core.Bool.{cond}
use mathlib.Core.List.{List, ◌++◌, flatten}
use native.Mathlib.Nat.{le_refl, mul-add}
use native.Mathlib.Omega.{arith}
use lib.Dec.{eqb}
use lib.ListN.{length, take, length-append}
use lib.Seq.{take-take, take-length, length-take-le, take_all}
use Rattle.loc_leaf.specs.declared.Kind.{Kind}
use Rattle.loc_leaf.specs.Bytes.{Bytes}
use Rattle.loc_leaf.specs.Area.{counted, store_length, store_past}
use Rattle.loc_leaf.specs.Kind.{row_width, checkpoint_width}
use Rattle.loc_leaf.proofs.AreaLaws.{Widths, length_flatten, counted_store_past}
use Rattle.loc_calls.specs.Areas.{Three, each₂, Areas}
use Rattle.loc_calls.specs.Table.{Entry}
use Rattle.loc_calls.specs.Stores.{Place, row_length, checkpoint_length, write, step, run, differing, gather, slot_of, row_of, checkpoint_of, staged, new_end, new_ends, append_places}
use Rattle.loc_calls.proofs.Holds.{Holds, store_differing, set_differing, forget, past_holds, extend}
use Rattle.loc_calls.proofs.Gathered.{slots_of, rows_of, checkpoints_of, AllValid, valid_append, gather_after, length_slots, length_checkpoints, widths_slots, widths_rows, widths_checkpoints}
use Rattle.loc_calls.proofs.State.{State, count_is, step_slots, step_rows, step_checkpoints}
use Rattle.loc_calls.proofs.Opening.{Full}
use Rattle.loc_calls.proofs.Batches.{Fits}

-- ---- one area

-- the area's pieces of the list E are published, and there is room for those of es
module _ (w : ℕ) (xs : Bytes) (f : ℕ → Entry → List Bytes) (E es : List Entry) (n : ℕ) (items : List Bytes) (h : Holds w xs items n)
    (first : take n items ≡ gather f 0 E) (ws : Widths w (gather f (length E) es)) (fits : new_end xs (gather f (length E) es) ≤ length xs) (below : new_end xs (gather f (length E) es) < 2 ^ 64) where
  abbrev new : List Bytes
  new = gather f (length E) es

  abbrev written : Bytes
  written = store_past (flatten new) xs

  total : length (gather f 0 (E ++ es)) ≡ n + length new
  total = ap length (gather_after f E es) ∙ length-append (gather f 0 E) new ∙ ap (λ (i : ℕ). i + length new) (ap length (sym first) ∙ length-take-le n items h.inside)

  -- the bytes stand behind the published ones
  pub written_holds : Holds w written (gather f 0 (E ++ es)) n
  unfolding new_end
  written_holds = subst (λ (l : List Bytes). Holds w written l n) (rw first (sym (gather_after f E es))) (extend w xs items n new h ws fits below)

  -- and a stored length publishes them
  pub grown_holds : Holds w (cond (eqb (new_end xs new) (counted xs)) written (store_length (new_end xs new) written)) (gather f 0 (E ++ es)) (length (gather f 0 (E ++ es)))
  unfolding store_differing
  grown_holds =
      rw (end, sym (counted_store_past (flatten new) xs h.big))
      (set_differing w written (gather f 0 (E ++ es)) n (length (gather f 0 (E ++ es))) written_holds (le_refl (length (gather f 0 (E ++ es)))))
    where
      end : new_end xs new ≡ 16 + w * length (gather f 0 (E ++ es))
      end = unfold new_end in omega (arith, h.end, length_flatten w new ws, mul-add w n (length new), ap (λ (i : ℕ). w * i) total)

-- ---- the ends that a batch would reach

-- the ends of areas that hold a list whole
unfoldable pub whole_ends : Kind → List Entry → Three ℕ
whole_ends k E = record {
  slots = 16 + 2 * length E;
  rows = 16 + row_width k * length (rows_of k E);
  checkpoints = 16 + checkpoint_width k * (length E / 1024);
}

new_end_lem : (w : ℕ) (xs : Bytes) (f : ℕ → Entry → List Bytes) (E es : List Entry) (n : ℕ) → counted xs ≡ 16 + w * n → n ≡ length (gather f 0 E) → Widths w (gather f (length E) es)
    → new_end xs (gather f (length E) es) ≡ 16 + w * length (gather f 0 (E ++ es))
unfolding new_end
new_end_lem w xs f E es n end q ws =
    omega (
      arith,
      end,
      length_flatten w (gather f (length E) es) ws,
      mul-add w n (length (gather f (length E) es)),
      ap (λ (i : ℕ). w * i) (ap length (gather_after f E es) ∙ length-append (gather f 0 E) (gather f (length E) es) ∙ ap (λ (i : ℕ). i + length (gather f (length E) es)) (sym q)),
    )

pub new_ends_lem : (k : Kind) (a : Areas) (E es : List Entry) → Full k a E → new_ends k a es ≡ whole_ends k (E ++ es)
unfolding new_ends whole_ends staged
new_ends_lem k a E es s =
    rw (
      count_is k a E _ _ s,
      new_end_lem 2 a.slots (slot_of k) E es (length E) s.slots.end (sym (length_slots k 0 E)) (widths_slots k (length E) es),
      new_end_lem (row_width k) a.rows (row_of k) E es (length (rows_of k E)) s.rows.end refl (widths_rows k (length E) es),
      new_end_lem (checkpoint_width k) a.checkpoints (checkpoint_of k) E es (length E / 1024) s.checkpoints.end (sym (length_checkpoints k E)) (widths_checkpoints k (length E) es),
      length_slots k 0 (E ++ es),
      length_checkpoints k (E ++ es),
    ) refl

-- ends that eight bytes hold
pub record AllBelow (ends : Three ℕ) : Type 0 where
  pub slots : ends.slots < 2 ^ 64
  pub rows : ends.rows < 2 ^ 64
  pub checkpoints : ends.checkpoints < 2 ^ 64

-- ---- any bytes

-- what holds a list whole does so with any bytes past the published ends
pub written_full : (k : Kind) (a : Areas) (E : List Entry) (b : Three Bytes) → Full k a E → Full k (step (write b) a) E
unfolding step
written_full k a E b s = record {
  slots = rw (take_all (length E) (slots_of k E) (omega (arith, length_slots k 0 E))) at (past_holds 2 a.slots (slots_of k E) (length E) s.slots b.slots);
  rows = rw rows_same at (past_holds (row_width k) a.rows (take (suc r) (rows_of k E)) r s.rows b.rows);
  checkpoints = rw (take-take c c (checkpoints_of k E) (le_refl c)) at (past_holds (checkpoint_width k) a.checkpoints (take c (checkpoints_of k E)) c s.checkpoints b.checkpoints);
  valid = s.valid;
}
  where
    r : ℕ
    r = length (rows_of k E)

    c : ℕ
    c = length E / 1024

    rows_same : take r (take (suc r) (rows_of k E)) ≡ take (suc r) (rows_of k E)
    rows_same = take-take r (suc r) (rows_of k E) (omega arith) ∙ take-length (rows_of k E) ∙ sym (take_all (suc r) (rows_of k E) (omega arith))

-- ---- the four places

module _ (k : Kind) (a : Areas) (E es : List Entry) (s : Full k a E) (v : AllValid k es) (fits : Fits a (staged k (length E) es)) (below : AllBelow (whole_ends k (E ++ es))) where
  abbrev b : Three (List Bytes)
  b = staged k (length E) es

  abbrev r : ℕ
  r = length (rows_of k E)

  abbrev c : ℕ
  c = length E / 1024

  abbrev places : List Place
  places = append_places a b

  new_below : AllBelow (each₂ new_end a b)
  unfolding new_ends
  new_below = rw (count_is k a E _ _ s) at (subst AllBelow (sym (new_ends_lem k a E es s)) below)

  all_rows : take r (take (suc r) (rows_of k E)) ≡ rows_of k E
  all_rows = take-take r (suc r) (rows_of k E) (omega arith) ∙ take-length (rows_of k E)

  all_slots : take (length E) (slots_of k E) ≡ slots_of k E
  all_slots = take_all (length E) (slots_of k E) (omega (arith, length_slots k 0 E))

  all_checkpoints : take c (take c (checkpoints_of k E)) ≡ checkpoints_of k E
  all_checkpoints = take-take c c (checkpoints_of k E) (le_refl c) ∙ take_all c (checkpoints_of k E) (omega (arith, length_checkpoints k E))

  -- ---- the areas after each place

  abbrev grow : Bytes → List Bytes → Bytes
  grow xs new = cond (eqb (new_end xs new) (counted xs)) (store_past (flatten new) xs) (store_length (new_end xs new) (store_past (flatten new) xs))

  abbrev two : Areas
  two = record { slots = grow a.slots b.slots; rows = store_past (flatten b.rows) a.rows; checkpoints = store_past (flatten b.checkpoints) a.checkpoints }

  abbrev three : Areas
  three = record { slots = grow a.slots b.slots; rows = grow a.rows b.rows; checkpoints = store_past (flatten b.checkpoints) a.checkpoints }

  abbrev four : Areas
  four = record { slots = grow a.slots b.slots; rows = grow a.rows b.rows; checkpoints = grow a.checkpoints b.checkpoints }

  run_one : run 1 places a ≡ step (write (record { slots = flatten b.slots; rows = flatten b.rows; checkpoints = flatten b.checkpoints })) a
  unfolding run append_places
  run_one = refl

  run_two : run 2 places a ≡ two
  unfolding run step append_places
  run_two = step_slots (step (write (record { slots = flatten b.slots; rows = flatten b.rows; checkpoints = flatten b.checkpoints })) a) (counted a.slots) (new_end a.slots b.slots)

  run_three : run 3 places a ≡ three
  unfolding run append_places
  run_three = ap (step (differing row_length (counted a.rows) (new_end a.rows b.rows))) run_two ∙ step_rows two (counted a.rows) (new_end a.rows b.rows)

  run_four : run 4 places a ≡ four
  unfolding run append_places
  run_four = ap (step (differing checkpoint_length (counted a.checkpoints) (new_end a.checkpoints b.checkpoints))) run_three ∙ step_checkpoints three (counted a.checkpoints) (new_end a.checkpoints b.checkpoints)

  -- ---- what they hold

  slots_grown : Holds 2 (grow a.slots b.slots) (slots_of k (E ++ es)) (length (E ++ es))
  unfolding staged
  slots_grown =
      subst (Holds 2 (grow a.slots b.slots) (slots_of k (E ++ es))) (length_slots k 0 (E ++ es))
      (grown_holds 2 a.slots (slot_of k) E es (length E) (slots_of k E) s.slots all_slots (widths_slots k (length E) es) fits.slots new_below.slots)

  rows_written : Holds (row_width k) (store_past (flatten b.rows) a.rows) (rows_of k (E ++ es)) r
  unfolding staged
  rows_written = written_holds (row_width k) a.rows (row_of k) E es r (take (suc r) (rows_of k E)) s.rows all_rows (widths_rows k (length E) es) fits.rows new_below.rows

  rows_grown : Holds (row_width k) (grow a.rows b.rows) (take (suc (length (rows_of k (E ++ es)))) (rows_of k (E ++ es))) (length (rows_of k (E ++ es)))
  unfolding staged
  rows_grown =
      rw (take_all (suc (length (rows_of k (E ++ es)))) (rows_of k (E ++ es)) (omega arith))
      (grown_holds (row_width k) a.rows (row_of k) E es r (take (suc r) (rows_of k E)) s.rows all_rows (widths_rows k (length E) es) fits.rows new_below.rows)

  checkpoints_written : Holds (checkpoint_width k) (store_past (flatten b.checkpoints) a.checkpoints) (take c (checkpoints_of k (E ++ es))) c
  unfolding staged
  checkpoints_written =
      forget (checkpoint_width k) _ _ c c
      (written_holds (checkpoint_width k) a.checkpoints (checkpoint_of k) E es c (take c (checkpoints_of k E)) s.checkpoints all_checkpoints (widths_checkpoints k (length E) es) fits.checkpoints new_below.checkpoints)
      (le_refl c)

  checkpoints_grown : Holds (checkpoint_width k) (grow a.checkpoints b.checkpoints) (take (length (E ++ es) / 1024) (checkpoints_of k (E ++ es))) (length (E ++ es) / 1024)
  unfolding staged
  checkpoints_grown =
      rw (take_all (length (E ++ es) / 1024) (checkpoints_of k (E ++ es)) (omega (arith, length_checkpoints k (E ++ es))))
      (subst (Holds (checkpoint_width k) (grow a.checkpoints b.checkpoints) (checkpoints_of k (E ++ es))) (length_checkpoints k (E ++ es))
      (grown_holds (checkpoint_width k) a.checkpoints (checkpoint_of k) E es c (take c (checkpoints_of k E)) s.checkpoints all_checkpoints (widths_checkpoints k (length E) es) fits.checkpoints new_below.checkpoints))

  valid_all : AllValid k (E ++ es)
  valid_all = valid_append k E es s.valid v

  pub appended_1 : Full k (run 1 places a) E
  appended_1 = rw run_one (written_full k a E _ s)

  pub appended_2 : State k (run 2 places a) (E ++ es) r c
  appended_2 = rw run_two (record { slots = slots_grown; rows = forget (row_width k) _ _ r (suc r) rows_written (omega arith); checkpoints = checkpoints_written; valid = valid_all })

  pub appended_3 : State k (run 3 places a) (E ++ es) (length (rows_of k (E ++ es))) c
  appended_3 = rw run_three (record { slots = slots_grown; rows = rows_grown; checkpoints = checkpoints_written; valid = valid_all })

  pub appended_4 : Full k (run 4 places a) (E ++ es)
  appended_4 = rw run_four (record { slots = slots_grown; rows = rows_grown; checkpoints = checkpoints_grown; valid = valid_all })
