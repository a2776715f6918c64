-- An opening's two rules: what the checkpoint rule's truncation leaves, and the count that the cut rule keeps of that.
-- Nothing is stored to find it out: it is computed from the areas as they were.
use Prim.Native.Nat.{ℕ, zero, suc, ◌+◌, ◌-◌, ◌*◌, ◌/◌, ◌^◌, ◌≤◌, ◌<◌}
use mathlib.Core.Path.{◌≡◌, refl, sym, ap, ◌∙◌}
use mathlib.Core.Logic.{◌⊎◌, inl, inr}
use mathlib.Core.Bool.{Bool, true, false, cond}
use native.Mathlib.Nat.{mul-zero, mul-suc, mul-le-mul_left}
use native.Mathlib.Omega.{arith}
use lib.Dec.{ltb, eqb}
use lib.ListN.{length, take, drop}
use borrow.Author.Tests.{lt-ltb, ltb-true, ltb-false, eqb-true}
use Rattle.loc_leaf.specs.declared.Kind.{Kind}
use Rattle.loc_leaf.specs.declared.Kind.TheVariants.{Paired, Single}
use Rattle.loc_leaf.specs.Bytes.{Bytes, bytes, number_at, store}
use Rattle.loc_leaf.specs.Area.{counted, store_length, fill, published}
use Rattle.loc_leaf.specs.Kind.{row_width, checkpoint_width}
use Rattle.loc_leaf.specs.Slot.{slot_at, checkpoint_rule}
use Rattle.loc_leaf.specs.Rows.{row_number, row_list, ascending, last_number, rows_up_to}
use Rattle.loc_leaf.specs.Cut.{cuts, cut_for}
use Rattle.loc_leaf.proofs.Booleans.{is?}
use Rattle.loc_leaf.proofs.Stored.{length_bytes, drop_store}
use Rattle.loc_leaf.proofs.AreaLaws.{length_store_length, counted_store_length, pieces_take}
use Rattle.loc_leaf.proofs.RowLaws.{last_none, last_some, rows_count}
use Rattle.loc_calls.specs.Areas.{Areas, each, count, areas}
use Rattle.loc_calls.specs.Stores.{truncate_places, next_row, holds_next, cut_rule, ruled_count, ruled, open_places}
use Rattle.loc_calls.proofs.Durable.{rows_to_edge}
use Rattle.loc_store.specs.declared.Lengths.{Lengths}
use Rattle.loc_store.specs.declared.Rules.{Rules}
use Rattle.loc_store.specs.declared.Published.{Published}
use Rattle.loc_store.specs.Areas.{HoldHeaders, Publishes}
use Rattle.loc_store.specs.Plans.{fitted, lengths_of, lengths_for, length_places, rules_places, rules_for, number_before, cut_past}
use Rattle.loc_store.proofs.PlanLaws.{kept_room}
use Rattle.loc_store.proofs.StoreLaws.{run_three}
use Rattle.loc_leaf.proofs.RowPrefix.{up_to_first, up_to_le}

-- ---- an area with another length

module _ (old v : ℕ) (xs : Bytes) where
  length_fitted : length (fitted old v xs) ≡ length xs
  unfolding fitted
  length_fitted = go (eqb v old)
    where
      go : (b : Bool) → length (cond b xs (store_length v xs)) ≡ length xs
      go true = refl
      go false = length_store_length v xs

  drop_fitted : (n : ℕ) → 16 ≤ n → drop n (fitted old v xs) ≡ drop n xs
  unfolding fitted store_length
  drop_fitted n h = go (eqb v old)
    where
      go : (b : Bool) → drop n (cond b xs (store 8 (bytes 8 v) xs)) ≡ drop n xs
      go true = refl
      go false = drop_store n 8 (bytes 8 v) xs (omega (arith, length_bytes 8 v))

  counted_fitted : old ≡ counted xs → 16 ≤ v → v ≤ length xs → length xs < 2 ^ 64 → counted (fitted old v xs) ≡ v
  unfolding fitted
  counted_fitted e g h l = go (is? (eqb v old))
    where
      go : (eqb v old ≡ true) ⊎ (eqb v old ≡ false) → counted (fitted old v xs) ≡ v
      go (inl t) = rw t (sym (eqb-true v old t ∙ e))
      go (inr t) = rw t (counted_store_length v xs g h (omega arith))

-- slots are looked at past the length
cut_fitted : (k : Kind) (old v : ℕ) (s : Bytes) (n last : ℕ) (r : Bytes) → cut_for k (fitted old v s) n last r ≡ cut_for k s n last r
unfolding cut_for cuts slot_at
cut_fitted k old v s n last r = rw (drop_fitted old v s (16 + 2 * (row_number r - 1)) (omega arith)) refl

-- ---- the first p rows

wide : (k : Kind) → 12 ≤ row_width k
wide Paired = omega arith
wide Single = omega arith

back : (w p q : ℕ) → p ≡ suc q → 16 + w * p - w ≡ 16 + w * (p - 1)
back w p q e = let z : p - 1 ≡ q = omega arith in rw (z, e) (omega (arith, mul-suc w q))

past : (w p q : ℕ) → 12 ≤ w → p ≡ suc q → 16 < 16 + w * p
past w p q h e = rw e (omega (arith, mul-suc w q))

module _ (k : Kind) (xs : Bytes) (p : ℕ) (h : p ≤ fill (row_width k) xs) (g : 16 ≤ length xs) (l : length xs < 2 ^ 64) where
  abbrev end : ℕ
  end = 16 + row_width k * p

  end_in : end ≤ length xs
  end_in = kept_room k xs (row_width k) p refl h g

  end_counted : counted (fitted (counted xs) end xs) ≡ end
  end_counted = counted_fitted (counted xs) end xs refl (omega arith) end_in l

  rows_fill : fill (row_width k) (fitted (counted xs) end xs) ≡ p
  unfolding fill
  rows_fill = rw end_counted (rows_to_edge k p)

  rows_first : row_list k (fitted (counted xs) end xs) ≡ take p (row_list k xs)
  unfolding row_list published
  rows_first = rw (rows_fill, drop_fitted (counted xs) end xs 16 (omega arith)) (pieces_take (row_width k) p (fill (row_width k) xs) (drop 16 xs) h)

  row_before : (q : ℕ) → p ≡ suc q → number_at 8 (end - row_width k) xs ≡ number_at 8 (16 + row_width k * (p - 1)) (fitted (counted xs) end xs)
  unfolding number_at
  row_before q e =
      rw (back (row_width k) p q e, drop_fitted (counted xs) end xs (16 + row_width k * (p - 1)) (omega arith)) refl

  pub rows_last : last_number 0 (row_list k (fitted (counted xs) end xs)) ≡ number_before k xs end
  unfolding number_before
  rows_last = by p refl
    where
      by : (q : ℕ) → p ≡ q → last_number 0 (row_list k (fitted (counted xs) end xs)) ≡ number_before k xs end
      by zero e = sym (last_none k (fitted (counted xs) end xs) p (sym rows_fill) e) ∙ rw (e, mul-zero (row_width k)) refl
      by (suc q) e =
          sym (last_some k (fitted (counted xs) end xs) p (sym rows_fill) (row_width k) _ refl (wide k) (λ z. omega arith) (row_before q e))
          ∙ rw (lt-ltb 16 end (past (row_width k) p q (wide k) e)) refl

  -- the last of the first p rows is the one before their end
  pub first_last : last_number 0 (take p (row_list k xs)) ≡ number_before k xs end
  first_last = ap (last_number 0) (sym rows_first) ∙ rows_last

-- the rule keeps no more than there are
pub rule_le : (n k : ℕ) → checkpoint_rule n k ≤ n
unfolding checkpoint_rule
rule_le n k = by (is? (ltb k (n / 1024)))
  where
    by : (ltb k (n / 1024) ≡ true) ⊎ (ltb k (n / 1024) ≡ false) → checkpoint_rule n k ≤ n
    by (inl t) = rw t (omega (arith, ltb-true k (n / 1024) t))
    by (inr t) = rw t (omega arith)

-- ---- what is left by the checkpoint rule's truncation to n records, and what the cut rule keeps of it

module _ (k : Kind) (s r c : Bytes) (g : HoldHeaders (areas s r c)) (ls : length s < 2 ^ 64) (lr : length r < 2 ^ 64) (asc : ascending 0 (row_list k r) ≡ true)
    (p : Published) (q : Publishes k (areas s r c) p) (n : ℕ) (rule : n ≡ checkpoint_rule p.slots.count p.checkpoints.count) (few : n ≤ p.slots.count) where
  en : n ≡ checkpoint_rule (fill 2 s) (fill (checkpoint_width k) c)
  en = rule ∙ rw (q.slots.count, q.checkpoints.count) refl

  abbrev kept : ℕ
  kept = rows_up_to n (row_list k r)

  abbrev row_end : ℕ
  row_end = 16 + row_width k * kept

  ruled_is : ruled k (areas s r c) ≡ areas (fitted (counted s) (16 + 2 * n) s) (fitted (counted r) row_end r) (fitted (counted c) (16 + checkpoint_width k * (n / 1024)) c)
  unfolding ruled truncate_places ruled_count count lengths_for length_places
  ruled_is = rw (← en) (run_three (lengths_of (each counted (areas s r c))) (lengths_for k n r) s r c)

  kept_in : kept ≤ fill (row_width k) r
  kept_in = rw (rows_count k r) at (up_to_le n (row_list k r))

  slot_end : counted (fitted (counted s) (16 + 2 * n) s) ≡ 16 + 2 * n
  slot_end = counted_fitted (counted s) (16 + 2 * n) s refl (omega arith) (omega (arith, g.slots_hold, q.slots.room)) ls

  slots_fill : fill 2 (fitted (counted s) (16 + 2 * n) s) ≡ n
  unfolding fill
  slots_fill = rw slot_end (omega arith)

  cut_is : cut_rule k (ruled k (areas s r c)) ≡ cut_past k s r n row_end
  unfolding cut_rule holds_next next_row count cut_past
  cut_is =
      rw (
        ruled_is,
        end_counted k r kept kept_in g.rows_hold lr,
        length_fitted (counted r) row_end r,
        slots_fill,
        rows_last k r kept kept_in g.rows_hold lr,
        drop_fitted (counted r) row_end r row_end (omega arith),
        cut_fitted k (counted s) (16 + 2 * n) s n (number_before k r row_end) (take (row_width k) (drop row_end r)),
      ) refl

  lengths_same : (m : ℕ) → m ≤ n → lengths_for k m (fitted (counted r) row_end r) ≡ lengths_for k m r
  unfolding lengths_for
  lengths_same m h = rw (rows_first k r kept kept_in g.rows_hold lr, up_to_first m n 0 (row_list k r) h asc) refl

  end_is : (lengths_for k n r).rows ≡ row_end
  unfolding lengths_for
  end_is = refl

  pub rules_are : (t u : Lengths) (m : ℕ) → t ≡ lengths_for k n r → m ≡ cut_past k s r n t.rows → m ≤ n → u ≡ lengths_for k m r
      → ◌≡◌ {A = Rules} (record { checkpoint = t; cut = u }) (rules_for k (areas s r c))
  unfolding rules_for ruled_count count
  rules_are t u m et em h eu = rw (← en, et, eu, cut) refl
    where
      keeps : m ≡ cut_rule k (ruled k (areas s r c))
      keeps = em ∙ ap (λ (x : Lengths). cut_past k s r n x.rows) et ∙ ap (cut_past k s r n) end_is ∙ sym cut_is

      cut : lengths_for k m r ≡ lengths_for k (cut_rule k (ruled k (areas s r c))) (ruled k (areas s r c)).rows
      cut = sym (lengths_same m h) ∙ ap (λ (i : ℕ). lengths_for k i (fitted (counted r) row_end r)) keeps ∙ ap (λ (x : Areas). lengths_for k (cut_rule k (ruled k (areas s r c))) x.rows) (sym ruled_is)

  -- where the cut rule keeps as many, its lengths are the same
  pub rules_same : (t : Lengths) (m : ℕ) → t ≡ lengths_for k n r → m ≡ cut_past k s r n t.rows → m ≡ n
      → ◌≡◌ {A = Rules} (record { checkpoint = t; cut = t }) (rules_for k (areas s r c))
  rules_same t m et em h = rules_are t t m et em (omega arith) (et ∙ ap (λ (i : ℕ). lengths_for k i r) (sym h))

  -- no more checkpoints than there are
  windows_in : n / 1024 ≤ fill (checkpoint_width k) c
  unfolding checkpoint_rule
  windows_in = rw en (by (is? (ltb (fill (checkpoint_width k) c) (fill 2 s / 1024))))
    where
      by : (ltb (fill (checkpoint_width k) c) (fill 2 s / 1024) ≡ true) ⊎ (ltb (fill (checkpoint_width k) c) (fill 2 s / 1024) ≡ false)
          → checkpoint_rule (fill 2 s) (fill (checkpoint_width k) c) / 1024 ≤ fill (checkpoint_width k) c
      by (inl t) = rw t (omega arith)
      by (inr t) = rw t (ltb-false (fill (checkpoint_width k) c) (fill 2 s / 1024) t)

  checkpoint_end : length c < 2 ^ 64 → counted (fitted (counted c) (16 + checkpoint_width k * (n / 1024)) c) ≡ 16 + checkpoint_width k * (n / 1024)
  checkpoint_end lc =
      counted_fitted (counted c) (16 + checkpoint_width k * (n / 1024)) c refl (omega arith)
      (omega (arith, g.checkpoints_hold, q.checkpoints.room, q.checkpoints.count, mul-le-mul_left {m = n / 1024} {n = fill (checkpoint_width k) c} (checkpoint_width k) windows_in, ap (λ (i : ℕ). checkpoint_width k * i) q.checkpoints.count)) lc

  -- the two rules' places, from the counted lengths on
  pub open_places_lem : length c < 2 ^ 64 → open_places k (areas s r c) ≡ rules_places (lengths_of (each counted (areas s r c))) (rules_for k (areas s r c))
  unfolding open_places rules_places rules_for truncate_places length_places lengths_for ruled_count count
  open_places_lem lc = rw (ruled_is, slot_end, end_counted k r kept kept_in g.rows_hold lr, checkpoint_end lc, ← en) refl
