-- How many records are durable, in areas that hold a list whole: up to a length on a row's edge, those before the next row's record.
-- The cut rule meets there what it would meet if that length were the published one.
use Prim.Native.Nat.{ℕ, suc, ◌+◌, ◌-◌, ◌*◌, ◌/◌, ◌%◌, ◌≤◌, ◌<◌}
use mathlib.Core.Path.{◌≡◌, refl, sym, ap, ◌∙◌, subst}
use mathlib.Core.Logic.{◌⊎◌, inl, inr}
use mathlib.Core.Bool.{true, false, true≢false}
use mathlib.Core.List.{List}
use native.Mathlib.Nat.{mul-suc, mul-le-mul_left, mul-div_cancel_left, add-sub_cancel_left}
use native.Mathlib.Omega.{arith}
use lib.Dec.{leb, eqb}
use lib.ListN.{length, take}
use lib.Seq.{take-take, take_all, take-append_seam}
use borrow.Author.Tests.{le-leb, leb-true, leb-false, eqb-true}
use Rattle.loc_leaf.specs.declared.Kind.{Kind}
use Rattle.loc_leaf.specs.declared.Kind.TheVariants.{Paired, Single}
use Rattle.loc_leaf.specs.Bytes.{Bytes, bytes}
use Rattle.loc_leaf.specs.Area.{counted, store_length}
use Rattle.loc_leaf.specs.Kind.{row_width}
use Rattle.loc_leaf.specs.Rows.{row_list}
use Rattle.loc_leaf.proofs.Booleans.{is?, both_left, both_right}
use Rattle.loc_leaf.proofs.Stored.{length_bytes, drop_store}
use Rattle.loc_leaf.proofs.AreaLaws.{length_store_length}
use Rattle.loc_calls.specs.Areas.{Areas, count}
use Rattle.loc_calls.specs.Table.{Entry}
use Rattle.loc_calls.specs.Stores.{row_bytes_at, next_row, holds_next, cut_rule}
use Rattle.loc_calls.specs.Reading.{all_after, lookup_at, has}
use Rattle.loc_calls.specs.Withheld.{on_edge, limited, rows_before, cut_at, withheld_limit, durable_at, all_durable, Durable}
use Rattle.loc_calls.proofs.Holds.{set_length, forget}
use Rattle.loc_calls.proofs.Gathered.{rows_of, NextRow, next_row_lem, next_total, next_before, rows_take}
use Rattle.loc_calls.proofs.State.{State, count_is, few, row_list_lem, row_wide, slot_at_lem, cut_next}
use Rattle.loc_calls.proofs.Opening.{Full, Kept, cut_keeps}
use Rattle.loc_calls.proofs.Reading.{lacks_row, all_are, all_fails, rows_are, among_first, all_there}

-- ---- lengths on a row's edge

-- the end of the first r rows
abbrev pub edge : Kind → ℕ → ℕ
edge k r = 16 + row_width k * r

-- how many rows end at or before a length
abbrev pub rows_to : Kind → ℕ → ℕ
rows_to k d = (d - 16) / row_width k

pub rows_to_edge : (k : Kind) (r : ℕ) → rows_to k (edge k r) ≡ r
rows_to_edge k r = rw (add-sub_cancel_left 16 (row_width k * r)) (mul-div_cancel_left r (row_wide k))

pub edge_is : (k : Kind) (d : ℕ) → on_edge k d ≡ true → d ≡ edge k (rows_to k d)
unfolding on_edge
edge_is k d e = by k (leb-true 16 d (both_left (leb 16 d) (eqb ((d - 16) % row_width k) 0) e)) (eqb-true ((d - 16) % row_width k) 0 (both_right (leb 16 d) (eqb ((d - 16) % row_width k) 0) e))
  where
    by : (j : Kind) → 16 ≤ d → (d - 16) % row_width j ≡ 0 → d ≡ edge j (rows_to j d)
    by Paired h g = omega arith
    by Single h g = omega arith

-- a length from the end of all rows on has no fewer before it
rows_to_past : (k : Kind) (r d : ℕ) → edge k r ≤ d → r ≤ rows_to k d
rows_to_past Paired r d h = omega arith
rows_to_past Single r d h = omega arith

pub edges_apart : (k : Kind) (r q : ℕ) → edge k r < edge k q → r < q
edges_apart Paired r q h = omega arith
edges_apart Single r q h = omega arith

-- what the cut is counts only on an edge below the end
pub limited_same : (k : Kind) (d end n x y : ℕ) → (d < end → on_edge k d ≡ true → x ≡ y) → limited k d end n x ≡ limited k d end n y
unfolding limited
limited_same k d end n x y h = go (is? (leb end d)) (is? (on_edge k d))
  where
    go : (leb end d ≡ true) ⊎ (leb end d ≡ false) → (on_edge k d ≡ true) ⊎ (on_edge k d ≡ false) → limited k d end n x ≡ limited k d end n y
    go (inl p) q = rw p refl
    go (inr p) (inl q) = ap (limited k d end n) (h (leb-false end d p) q)
    go (inr p) (inr q) = rw (p, q) refl

-- ---- areas that hold a list whole

module _ (k : Kind) (a : Areas) (E : List Entry) (s : Full k a E) where
  abbrev R : ℕ
  R = length (rows_of k E)

  end_is : counted a.rows ≡ edge k R
  end_is = s.rows.end

  all_held : take (suc R) (rows_of k E) ≡ rows_of k E
  all_held = take_all (suc R) (rows_of k E) (omega arith)

  before_is : (d : ℕ) → rows_before k d a.rows ≡ take (rows_to k d) (rows_of k E)
  unfolding rows_before
  before_is d = ap (take (rows_to k d)) (rows_are k a E s)

  -- ---- at or past the published end

  module _ (d : ℕ) (h : counted a.rows ≤ d) where
    limit_past : withheld_limit k d a ≡ length E
    unfolding withheld_limit limited
    limit_past = rw (le-leb (counted a.rows) d h) (count_is k a E _ _ s)

    all_before : rows_before k d a.rows ≡ row_list k a.rows
    all_before = before_is d ∙ take_all (rows_to k d) (rows_of k E) (rows_to_past k R d (omega (arith, end_is))) ∙ sym (rows_are k a E s)

    durable_past : all_durable k d a (length E) ≡ true
    unfolding durable_at
    durable_past = rw all_before (unfold lookup_at in all_there k a E s 0 (length E) (omega arith))

  -- ---- at the end of the first r rows, where there are more

  module _ (r : ℕ) (h : r < R) where
    -- the areas if this were the published length
    abbrev up_to : Areas
    up_to = record { slots = a.slots; rows = store_length (edge k r) a.rows; checkpoints = a.checkpoints }

    up_to_state : State k up_to E r (length E / 1024)
    up_to_state = record {
      slots = s.slots;
      rows =
          rw (take-take (suc r) (suc R) (rows_of k E) (omega arith)) at
          (forget (row_width k) (store_length (edge k r) a.rows) (take (suc R) (rows_of k E)) r (suc r)
          (set_length (row_width k) a.rows (take (suc R) (rows_of k E)) R r s.rows (omega (arith, ap length all_held))) (omega arith));
      checkpoints = s.checkpoints;
      valid = s.valid;
    }

    rows_first : rows_before k (edge k r) a.rows ≡ row_list k up_to.rows
    rows_first = before_is (edge k r) ∙ ap (λ (i : ℕ). take i (rows_of k E)) (rows_to_edge k r) ∙ sym (row_list_lem k up_to E r (length E / 1024) up_to_state)

    row_there : row_bytes_at k (edge k r) a.rows ≡ next_row k up_to.rows
    unfolding next_row store_length
    row_there = rw (up_to_state.rows.end, drop_store (edge k r) 8 (bytes 8 (edge k r)) a.rows (omega (arith, length_bytes 8 (edge k r)))) refl

    next_held : holds_next k up_to.rows ≡ true
    unfolding holds_next
    next_held =
        rw (up_to_state.rows.end, length_store_length (edge k r) a.rows)
        (le-leb (edge k r + row_width k) (length a.rows)
        (omega (arith, s.rows.room, ap (λ (l : List Bytes). row_width k * length l) all_held, mul-suc (row_width k) r, mul-le-mul_left {m = suc r} {n = R} (row_width k) h)))

    -- the cut rule meets what opening's would meet
    cut_there : cut_at k (edge k r) a ≡ cut_rule k up_to
    unfolding cut_at cut_rule count
    cut_there = rw (rows_first, row_there, next_held) refl

    abbrev t : NextRow k 0 r E
    t = next_row_lem k 0 r E h

    cut_first : cut_at k (edge k r) a ≡ length t.first
    cut_first = cut_there ∙ cut_next k up_to E r (length E / 1024) up_to_state t

    first_taken : take (length t.first) E ≡ t.first
    first_taken = ap (take (length t.first)) t.split ∙ take-append_seam t.first _

    -- the durable rows are those of the records before it
    rows_of_first : rows_before k (edge k r) a.rows ≡ rows_of k (take (length t.first) E)
    rows_of_first =
        before_is (edge k r)
        ∙ ap (λ (i : ℕ). take i (rows_of k E)) (rows_to_edge k r ∙ sym (next_before k r E t))
        ∙ sym (rows_take k E (length t.first))

    durable_first : all_durable k (edge k r) a (length t.first) ≡ true
    unfolding durable_at
    durable_first =
        all_are (λ i. has (durable_at k (edge k r) a i)) 0 (length t.first)
        (λ i q. unfold has in (rw (rows_of_first, among_first k a E s i (omega (arith, next_total k r E t)) (length t.first) (omega arith)) refl))

    not_next : has (durable_at k (edge k r) a (suc (length t.first))) ≡ false
    unfolding durable_at has
    not_next =
        rw (
          rows_of_first,
          first_taken,
          slot_at_lem k a E _ _ s t.first t.it t.rest t.split,
          lacks_row k t.first _ (omega (arith, few k a E _ _ s, next_total k r E t)) t.needs,
        ) refl

    durable_edge : Durable k (edge k r) a (length t.first)
    durable_edge = record {
      inside = omega (arith, count_is k a E _ _ s, next_total k r E t);
      durable = durable_first;
      largest = λ e m l g. all_fails (λ i. has (durable_at k (edge k r) a i)) m (length t.first) l not_next;
    }

  -- ---- at any length

  module _ (d : ℕ) where
    fewer : d < counted a.rows → on_edge k d ≡ true → rows_to k d < R
    fewer h e = edges_apart k (rows_to k d) R (omega (arith, h, edge_is k d e, end_is))

    limit_off : leb (counted a.rows) d ≡ false → on_edge k d ≡ false → withheld_limit k d a ≡ 0
    unfolding withheld_limit limited
    limit_off p q = rw (p, q) refl

    limit_on : leb (counted a.rows) d ≡ false → on_edge k d ≡ true → withheld_limit k d a ≡ cut_at k d a
    unfolding withheld_limit limited
    limit_on p q = rw (p, q) refl

    pub durable_limit : Durable k d a (withheld_limit k d a)
    durable_limit = go (is? (leb (counted a.rows) d)) (is? (on_edge k d))
      where
        go : (leb (counted a.rows) d ≡ true) ⊎ (leb (counted a.rows) d ≡ false) → (on_edge k d ≡ true) ⊎ (on_edge k d ≡ false) → Durable k d a (withheld_limit k d a)
        go (inl p) q = rw (limit_past d (leb-true (counted a.rows) d p)) (record {
          inside = omega (arith, count_is k a E _ _ s);
          durable = durable_past d (leb-true (counted a.rows) d p);
          largest = λ e m l g. absurd (omega (arith, count_is k a E _ _ s));
        })
        go (inr p) (inl q) =
            let h : rows_to k d < R = fewer (leb-false (counted a.rows) d p) q in
            rw (limit_on p q) (subst (λ (i : ℕ). Durable k i a (cut_at k i a)) (sym (edge_is k d q)) (rw (cut_first (rows_to k d) h) (durable_edge (rows_to k d) h)))
        go (inr p) (inr q) = rw (limit_off p q) (record {
          inside = omega arith;
          durable = unfold all_after in refl;
          largest = λ e. absurd (true≢false (sym e ∙ q));
        })

    -- where the longest first part with no more rows than lie before the length has n records, n is the cut
    pub limit_kept : (n : ℕ) → Kept k E (rows_to k d) (length E / 1024) n → withheld_limit k d a ≡ limited k d (counted a.rows) (length E) n
    unfolding withheld_limit
    limit_kept n g = limited_same k d (counted a.rows) (count a) (cut_at k d a) n cut ∙ ap (λ (c : ℕ). limited k d (counted a.rows) c n) (count_is k a E _ _ s)
      where
        cut : d < counted a.rows → on_edge k d ≡ true → cut_at k d a ≡ n
        cut h e =
            ap (λ (i : ℕ). cut_at k i a) (edge_is k d e) ∙ cut_there (rows_to k d) (fewer h e)
            ∙ cut_keeps k (up_to (rows_to k d) (fewer h e)) E (rows_to k d) (length E / 1024) n (up_to_state (rows_to k d) (fewer h e)) g (omega arith)
