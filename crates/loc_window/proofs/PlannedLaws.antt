-- The rows of a planned window: between its two places stand the rows whose numbers lie in it, and no others.
-- The width is any; rows ascend throughout.
use Prim.Native.Nat.{ℕ, zero, suc, ◌+◌, ◌-◌, ◌*◌, ◌≤◌, ◌<◌, min}
use mathlib.Core.Path.{◌≡◌, sym, ap, ◌∙◌, subst}
use mathlib.Core.Logic.{◌⊎◌, inl, inr}
use mathlib.Core.Bool.{true, false}
use mir.Val.{bool_byte}
use mathlib.Core.List.{List}
use native.Mathlib.Nat.{add-zero}
use native.Mathlib.Decide.{dec_le}
use native.Mathlib.Omega.{arith}
use lib.Dec.{leb}
use lib.ListN.{length}
use borrow.Author.Tests.{leb-true, leb-false}
use Rattle.loc_leaf.specs.declared.Kind.{Kind}
use Rattle.loc_leaf.specs.Bytes.{Bytes}
use Rattle.loc_leaf.specs.Area.{published}
use Rattle.loc_leaf.specs.Kind.{window_of}
use Rattle.loc_leaf.specs.Rows.{row_list, ascending, number_in, rows_up_to}
use Rattle.loc_leaf.specs.Quarters.{Counts, Near}
use Rattle.loc_leaf.proofs.Booleans.{is?}
use Rattle.loc_leaf.proofs.RowLaws.{Parts, up_to_parts, none_up_to, rising, rows_count}
use Rattle.loc_window.specs.declared.PlannedWindow.{PlannedWindow}
use Rattle.loc_window.specs.Window.{Passed, Rising, RowsBefore}
use Rattle.loc_window.specs.Planned.{planned, Nearing}

-- ---- the rows of a window

module _ (width : ℕ) (xs : Bytes) (a : ascending 0 (published width xs) ≡ true) (w m i : ℕ) (h : i < length (published width xs)) where
  abbrev window : PlannedWindow
  window = planned (published width xs) (1024 * w) m

  begin : Parts (1024 * w) (published width xs) window.first
  begin = up_to_parts (1024 * w) 0 (published width xs) a

  end : Parts (1024 * w + 1024) (published width xs) window.past
  end = up_to_parts (1024 * w + 1024) 0 (published width xs) a

  -- a row stands between the two places exactly when its number lies in the window
  pub row_in_window : ((window.first ≤ i) × (i < window.past) → window_of (number_in (published width xs) i) ≡ w)
      × (window_of (number_in (published width xs) i) ≡ w → (window.first ≤ i) × (i < window.past))
  row_in_window = (
    λ p. omega (arith, begin.above i p.0 h, end.up_to i p.1),
    λ e. (after e (dec_le window.first i), before e (dec_le window.past i)),
  )
    where
      some : 0 < number_in (published width xs) i
      some = (none_up_to 0 0 (published width xs) (omega arith) a).1 i h

      after : window_of (number_in (published width xs) i) ≡ w → Dec (window.first ≤ i) → window.first ≤ i
      after e (yes g) = g
      after e (no g) = absurd (omega (arith, some, begin.up_to i (omega arith)))

      before : window_of (number_in (published width xs) i) ≡ w → Dec (window.past ≤ i) → i < window.past
      before e (yes g) = absurd (omega (arith, end.above i g h))
      before e (no g) = omega arith

-- ---- the search for both places

module _ (rs : List Bytes) (a : ascending 0 rs ≡ true) where
  -- 1 counts a row with a number up to n
  pub counts : (n i v r : ℕ) → i < length rs → v ≡ number_in rs i → r ≡ bool_byte (leb v n) → Counts (rows_up_to n rs) i r
  counts n i v r h ev er = go (is? (leb v n))
    where
      parts : Parts n rs (rows_up_to n rs)
      parts = up_to_parts n 0 rs a

      go : (leb v n ≡ true) ⊎ (leb v n ≡ false) → Counts (rows_up_to n rs) i r
      go (inl t) = inl (er ∙ ap bool_byte t, before (dec_le (rows_up_to n rs) i))
        where
          before : Dec (rows_up_to n rs ≤ i) → i < rows_up_to n rs
          before (yes g) = absurd (omega (arith, parts.above i g h, leb-true v n t))
          before (no g) = omega arith
      go (inr t) = inr (er ∙ ap bool_byte t, after (dec_le (rows_up_to n rs) i))
        where
          after : Dec (rows_up_to n rs ≤ i) → rows_up_to n rs ≤ i
          after (yes g) = g
          after (no g) = absurd (omega (arith, parts.up_to i (omega arith), leb-false v n t))

  -- rows rise by one at least
  rises : (i d : ℕ) → i + d < length rs → number_in rs i + d ≤ number_in rs (i + d)
  rises i zero h = rw (add-zero i) (omega arith)
  rises i (suc d) h = omega (arith, rises i d (omega arith), rising 0 rs a (i + d) (i + suc d) (omega arith) h)

  -- so that there are no more of them than numbers from `end` to n
  pub few_between : (end n p : ℕ) → p ≡ rows_up_to end rs → end ≤ n → (p ≤ rows_up_to n rs) × (rows_up_to n rs ≤ p + (n - end)) × (rows_up_to n rs ≤ length rs)
  few_between end n p e l = (more (dec_le p (rows_up_to n rs)), few (dec_le (rows_up_to n rs) (p + (n - end))), to.inside)
    where
      at : Parts end rs p
      at = rw e (up_to_parts end 0 rs a)

      to : Parts n rs (rows_up_to n rs)
      to = up_to_parts n 0 rs a

      more : Dec (p ≤ rows_up_to n rs) → p ≤ rows_up_to n rs
      more (yes h) = h
      more (no h) = absurd (omega (arith, at.up_to (rows_up_to n rs) (omega arith), to.above (rows_up_to n rs) (omega arith) (omega (arith, at.inside))))

      few : Dec (rows_up_to n rs ≤ p + (n - end)) → rows_up_to n rs ≤ p + (n - end)
      few (yes h) = h
      few (no h) = absurd (omega (arith, at.above p (omega arith) (omega (arith, to.inside)), rises p (n - end) (omega (arith, to.inside)), to.up_to (p + (n - end)) (omega arith)))

-- ---- both places

module _ (k : Kind) (rows : Bytes) (f : ℕ) where
  -- the search begins
  pub nearing : (count end p left : ℕ) → Rising k rows count → p ≡ rows_up_to end (row_list k rows) → end ≤ f → left ≡ min (count - p) (f + 1024 - end) → Nearing k rows f p p left
  nearing count end p left r e l el =
      record {
        ascend = r.ascend;
        first_in = omega (arith, r.counted, low.0, low.2, long);
        past_in = omega (arith, r.counted, low.0, low.2, long);
        first_near = record { low = low.0; high = omega (arith, low.1, low.2, long) };
        past_near = record { low = high.0; high = omega (arith, high.1, high.2, long) };
      }
    where
      long : count ≡ length (row_list k rows)
      long = r.counted ∙ sym (rows_count k rows)

      low : (p ≤ rows_up_to f (row_list k rows)) × (rows_up_to f (row_list k rows) ≤ p + (f - end)) × (rows_up_to f (row_list k rows) ≤ length (row_list k rows))
      low = few_between (row_list k rows) r.ascend end f p e l

      high : (p ≤ rows_up_to (f + 1024) (row_list k rows)) × (rows_up_to (f + 1024) (row_list k rows) ≤ p + (f + 1024 - end)) × (rows_up_to (f + 1024) (row_list k rows) ≤ length (row_list k rows))
      high = few_between (row_list k rows) r.ascend end (f + 1024) p e (omega arith)

  -- it goes on
  pub nearing_next : (first past left first' past' left' : ℕ) → Nearing k rows f first past left → Near first' left' (rows_up_to f (row_list k rows)) → Near past' left' (rows_up_to (f + 1024) (row_list k rows))
      → first' + left' ≤ first + left → past' + left' ≤ past + left → Nearing k rows f first' past' left'
  nearing_next first past left first' past' left' n wf wp hf hp =
      record { ascend = n.ascend; first_in = omega (arith, n.first_in); past_in = omega (arith, n.past_in); first_near = wf; past_near = wp }

  -- the same, with another name for how many rows are left
  pub nearing_at : (first past left left' : ℕ) → left ≡ left' → Nearing k rows f first past left → Nearing k rows f first past left'
  nearing_at first past left left' e n = subst (λ (i : ℕ). Nearing k rows f first past i) e n

-- ---- what the sums of a window ask of its plan

module _ (k : Kind) (rows : Bytes) (count : ℕ) (r : Rising k rows count) where
  pub planned_before : (top : ℕ) → RowsBefore k rows top (rows_up_to top (row_list k rows))
  planned_before top =
      let p = up_to_parts top 0 (row_list k rows) r.ascend in
      record { ascend = r.ascend; inside = omega (arith, p.inside, rows_count k rows); above = p.above }

  pub planned_passed : (f : ℕ) → Passed (row_list k rows) (rows_up_to f (row_list k rows)) f
  planned_passed f = (up_to_parts f 0 (row_list k rows) r.ascend).up_to

  -- no row is numbered 0
  pub none_passed : 0 ≡ rows_up_to 0 (row_list k rows)
  none_passed = sym (none_up_to 0 0 (row_list k rows) (omega arith) r.ascend).0

  -- all rows stand before their end
  pub all_before : (top : ℕ) → RowsBefore k rows top count
  all_before top = record { ascend = r.ascend; inside = omega (arith, r.counted); above = λ i g h. absurd (omega (arith, r.counted, rows_count k rows)) }
