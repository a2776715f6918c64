-- The walk over windows: what a window's turn asks, and that the keys up to its end are answered after it.
-- Nothing here rests on the order of the keys.
use Prim.Native.Nat.{ℕ, zero, suc, ◌+◌, ◌*◌, ◌^◌, ◌≤◌, ◌<◌}
use mathlib.Core.Path.{◌≡◌, refl, sym, ap, ◌∙◌, subst, subst⁻¹}
use mathlib.Core.Logic.{◌⊎◌, inl, inr, ⊎_elim}
use mathlib.Core.Bool.{true, false, or-true}
use mathlib.Core.List.{List, [], ◌∷◌}
use native.Mathlib.Nat.{not-suc-le-zero}
use native.Mathlib.Decide.{dec_le}
use native.Mathlib.Omega.{arith}
use lib.ListN.{length, get_or, replicate}
use Rattle.loc_leaf.specs.declared.Kind.{Kind}
use Rattle.loc_leaf.specs.declared.Kind.TheVariants.{Paired}
use Rattle.loc_leaf.specs.Bytes.{Bytes}
use Rattle.loc_leaf.specs.Kind.{window_of}
use Rattle.loc_leaf.specs.Rows.{rows_up_to}
use Rattle.loc_leaf.proofs.Booleans.{is?}
use Rattle.loc_calls.specs.Areas.{Areas, count}
use Rattle.loc_calls.specs.Table.{word_width}
use Rattle.loc_calls.specs.Reading.{before, window_end, within, row_missing, any_missing}
use Rattle.loc_order.specs.Order.{All, sorted}
use Rattle.loc_order.specs.Keys.{keys_from, places_from, place_of, wanted_by, KeyOf}
use Rattle.loc_order.proofs.OrderLaws.{all_of}
use Rattle.loc_order.proofs.KeyLaws.{keys_right, keys_meet, places_at}
use Rattle.loc_answer.specs.Words.{RunSafe, Agrees, RunPut}
use Rattle.loc_answer.proofs.AnswerLaws.{zeros_has}
use Rattle.loc_window.specs.declared.PlannedWindow.{PlannedWindow}
use Rattle.loc_window.specs.Window.{window_areas, complete, Copied}
use Rattle.loc_window.specs.Planned.{planned}
use Rattle.loc_runs.specs.Runs.{IsRun}
use Rattle.loc_read.specs.Walk.{Readable, InArrays, right_at, HasRight, Passing, Answered, Finished}
use Rattle.loc_runs.proofs.RunLaws.{looked_few, looked_counted, key_there, key_some, key_counted, own_number}
use Rattle.loc_read.proofs.WindowLaws.{window_lacks, window_complete, window_summed, window_words}

pub ordered_keys : (n : ℕ) (ids keys : List ℕ) → length ids ≤ 1024 → keys ≡ sorted (keys_from n 0 ids) → All (KeyOf n ids) keys
ordered_keys n ids keys h e = subst⁻¹ (All (KeyOf n ids)) e (keys_right n ids h)

-- one entry of the list whose slots lack a row
any_at : (k : Kind) (a : Areas) (ids : List ℕ) (p : ℕ) → p < length ids → row_missing k a (get_or ids p 0) ≡ true → any_missing k a ids ≡ true
unfolding any_missing
any_at k a [] p h e = absurd (not-suc-le-zero h)
any_at k a (x ∷ ids) zero h e = rw e refl
any_at k a (x ∷ ids) (suc p) h e = rw (any_at k a ids p (omega arith) e) (or-true (row_missing k a x))

before_or_from : (t i : ℕ) → (t < i) ⊎ (i ≤ t)
before_or_from t i = go (dec_le i t)
  where
    go : Dec (i ≤ t) → (t < i) ⊎ (i ≤ t)
    go (yes h) = inr h
    go (no h) = inl (omega arith)

pub passing_none : (k : Kind) (a : Areas) (ids keys out : List ℕ) → Passing k a ids keys 0 out out
passing_none k a ids keys out =
    record { inside = omega arith; long = refl; answers = λ t h. absurd (not-suc-le-zero h); complete = λ t h. absurd (not-suc-le-zero h); kept = λ p h. h }

-- ---- a window's turn

-- a planned window is that of a run of keys, of which it has the records that they look at
pub record Turn (k : Kind) (a : Areas) (n nr : ℕ) (ids keys : List ℕ) (i end stamp : ℕ) (mark : List ℕ) (window : PlannedWindow) : Type 0 where
  pub readable : Readable k a n nr
  pub known : All (KeyOf n ids) keys
  pub run : IsRun k n ids keys i end window.m stamp mark
  pub first : window.base ≡ before (wanted_by ids keys i)

pub turn : (k : Kind) (a : Areas) (n nr : ℕ) (ids keys : List ℕ) (i end stamp : ℕ) (mark : List ℕ) (window : PlannedWindow) (rs : List Bytes) (id w m : ℕ) → window ≡ planned rs (1024 * w) m
    → w ≡ window_of id → id ≡ wanted_by ids keys i → Readable k a n nr → All (KeyOf n ids) keys → IsRun k n ids keys i end m stamp mark → Turn k a n nr ids keys i end stamp mark window
turn k a n nr ids keys i end stamp mark window rs id w m e ew ei rd ks run =
    subst⁻¹ (Turn k a n nr ids keys i end stamp mark) e (record { readable = rd; known = ks; run = run; first = ap (λ (x : ℕ). 1024 * x) (ew ∙ ap window_of ei) })

-- its rows end where those of the next window begin
pub planned_past : (rs : List Bytes) (f m : ℕ) (window : PlannedWindow) → window ≡ planned rs f m → window.past ≡ rows_up_to (window.base + 1024) rs
planned_past rs f m window e = subst⁻¹ (λ (v : PlannedWindow). v.past ≡ rows_up_to (v.base + 1024) rs) e refl

module _ {k : Kind} {a : Areas} {n nr : ℕ} {ids keys : List ℕ} {i end stamp : ℕ} {mark : List ℕ} {window : PlannedWindow} (u : Turn k a n nr ids keys i end stamp mark window) where
  pub turn_few : window.m ≤ 1024
  turn_few = omega (arith, u.run.is_most, looked_few k n (wanted_by ids keys u.run.most))

  -- the window's records that are looked at are published
  turn_published : window.base + window.m ≤ n
  turn_published = omega (arith, looked_counted k n (wanted_by ids keys u.run.most) some (key_counted n ids keys u.known u.run.most there _ refl), u.run.is_most, own)
    where
      there : u.run.most < length keys
      there = omega (arith, u.run.most_end, u.run.inside)

      some : 0 < wanted_by ids keys u.run.most
      some = key_some n ids keys u.known u.run.most there _ refl

      own : before (wanted_by ids keys u.run.most) ≡ window.base
      own = ap (λ (w : ℕ). 1024 * w) (u.run.window u.run.most u.run.most_from u.run.most_end) ∙ sym u.first

  pub turn_room : 16 + 2 * window.base + 2 * window.m ≤ length a.slots
  turn_room = omega (arith, turn_published, u.readable.room)

  pub turn_low : (window.base + 1024 < 2 ^ 64) × (16 + 2 * window.base < 2 ^ 64)
  turn_low = (omega (arith, turn_published, u.readable.low), omega (arith, turn_published, u.readable.low))

  module _ (bytes old : Bytes) (copied : Copied a.slots (16 + 2 * window.base) (2 * window.m) old bytes) where
    -- the slot loop ends the walk
    pub turn_lacks : complete k (window_areas window.base bytes a.rows) window.base window.m ≡ false → any_missing k a ids ≡ true
    turn_lacks e =
        any_at k a ids (place_of (get_or keys u.run.most 0)) (key_there n ids keys u.known u.run.most (omega (arith, u.run.most_end, u.run.inside)))
        (window_lacks k a n nr ids keys i end window.base window.m stamp mark bytes old [] [] u.readable u.known u.run u.first copied e)

    module _ (body span : List ℕ) (w : InArrays k window.base window.m bytes a.rows mark stamp body span) where
      pub turn_safe : (out : List ℕ) → word_width k * length ids ≤ length out → RunSafe k ids keys i end body span out
      turn_safe out room =
          record {
            order = omega (arith, u.run.more);
            inside = u.run.inside;
            room = room;
            place = λ t l g. key_there n ids keys u.known t (omega (arith, u.run.inside));
            summed = λ t l g. window_summed k a n nr ids keys i end window.base window.m stamp mark bytes old body span u.readable u.known u.run u.first copied w t l g;
          }

      module _ (b e : ℕ) (eb : b ≡ window_end k a 0 (window_of (wanted_by ids keys i))) (ee : k ≡ Paired → e ≡ window_end k a 8 (window_of (wanted_by ids keys i))) where
        agrees : Agrees k ids keys i end b e body span (right_at k a ids)
        unfolding Agrees
        agrees t l g = window_words k a n nr ids keys i end window.base window.m stamp mark bytes old body span u.readable u.known u.run u.first copied w t l g b e eb ee

        pub passing_next : (out₀ out out' : List ℕ) → Passing k a ids keys i out₀ out → RunPut k ids keys i end b e body span out out' → Passing k a ids keys end out₀ out'
        passing_next out₀ out out' p r =
            record {
              inside = u.run.inside;
              long = r.long ∙ p.long;
              answers = answers;
              complete = complete;
              kept = λ q z. r.kept (right_at k a ids) agrees q (p.kept q z);
            }
          where
            answers : (t : ℕ) → t < end → HasRight k a ids out' (place_of (get_or keys t 0))
            answers t g =
                ⊎_elim
                (λ (l : t < i). r.kept (right_at k a ids) agrees (place_of (get_or keys t 0)) (p.answers t l))
                (λ (l : i ≤ t). r.put (right_at k a ids) agrees t l g)
                (before_or_from t i)

            complete : (t : ℕ) → t < end → row_missing k a (wanted_by ids keys t) ≡ false
            complete t g =
                ⊎_elim
                (λ (l : t < i). p.complete t l)
                (λ (l : i ≤ t). window_complete k a n nr ids keys i end window.base window.m stamp mark bytes old body span u.readable u.known u.run u.first copied w t l g)
                (before_or_from t i)

-- ---- the end of the walk

module _ (k : Kind) (a : Areas) (ids : List ℕ) where
  pub finished_17 : (out : List ℕ) → any_missing k a ids ≡ true → Finished k a ids out 17
  finished_17 out e = record { refused = rw e refl; answered = λ z. absurd (omega arith) }

  none_missing : (xs : List ℕ) → ((p : ℕ) → p < length xs → row_missing k a (get_or xs p 0) ≡ false) → any_missing k a xs ≡ false
  unfolding any_missing
  none_missing [] h = refl
  none_missing (x ∷ xs) h = rw (h 0 (omega arith), none_missing xs (λ p l. h (suc p) (omega arith))) refl

  -- a list that is one run is answered by its one turn
  pub finished_own : (old out : List ℕ) → length ids ≤ 1024 → Passing k a ids (places_from 0 (length ids)) (length ids) old out → Finished k a ids out 0
  unfolding Answered
  finished_own old out few w =
      record {
        refused = rw (none_missing ids (λ p h. ap (row_missing k a) (sym (own_number ids few p h)) ∙ w.complete p h)) refl;
        answered = λ _ p h. subst (HasRight k a ids out) (places_at (length ids) p few h) (w.answers p h);
      }

  module _ (n : ℕ) (keys : List ℕ) (few : length ids ≤ 1024) (is_count : n ≡ count a) (ordered : keys ≡ sorted (keys_from n 0 ids))
      (i : ℕ) (old out : List ℕ) (w : Passing k a ids keys i old out) (ended : length keys ≤ i) where
    -- what holds of each key's place holds of each place whose number lies between 1 and the count
    meet : (P : ℕ → Type 0) → ((t : ℕ) → t < length keys → P (place_of (get_or keys t 0))) → (p : ℕ) → p < length ids → within n (get_or ids p 0) ≡ true → P p
    meet P f p h e = keys_meet P n ids few (subst (All (λ x. P (place_of x))) ordered (all_of (λ x. P (place_of x)) keys f)) p h e

    all_complete : (p : ℕ) → p < length ids → row_missing k a (get_or ids p 0) ≡ false
    unfolding row_missing
    all_complete p h = go (is? (within n (get_or ids p 0)))
      where
        go : (within n (get_or ids p 0) ≡ true) ⊎ (within n (get_or ids p 0) ≡ false) → row_missing k a (get_or ids p 0) ≡ false
        go (inl e) = meet (λ q. row_missing k a (get_or ids q 0) ≡ false) (λ t l. w.complete t (omega arith)) p h e
        go (inr e) = rw (← is_count, e) refl

    all_answered : old ≡ replicate (length old) 0 → Answered k a ids out
    unfolding Answered
    all_answered z p h = go (is? (within n (get_or ids p 0)))
      where
        go : (within n (get_or ids p 0) ≡ true) ⊎ (within n (get_or ids p 0) ≡ false) → HasRight k a ids out p
        go (inl e) = meet (HasRight k a ids out) (λ t l. w.answers t (omega arith)) p h e
        go (inr e) =
            w.kept p (subst⁻¹ (λ (x : List ℕ). HasRight k a ids x p) z (zeros_has k a (length old) (get_or ids p 0) p (rw (← is_count) e)))

    pub finished_0 : old ≡ replicate (length old) 0 → Finished k a ids out 0
    finished_0 z = record { refused = rw (none_missing ids all_complete) refl; answered = λ q. all_answered z }
