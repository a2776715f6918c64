-- The sums of records by the rows from a place on: none, one more, all of them.
-- Where no record lacks its row they are the sums of a reading.
use Rattle.std.specs.Prelude.{Option, Some, None}
use Prim.Native.Nat.{ℕ, zero, suc, ◌+◌, ◌-◌, ◌*◌, ◌^◌, ◌≤◌, ◌<◌}
use mathlib.Core.Path.{◌≡◌, refl, sym, ap, ◌∙◌, subst}
use mathlib.Core.Logic.{⊎_elim}
use mathlib.Core.Bool.{Bool, true, false, cond, ◌&&◌, and-false}
use mathlib.Core.List.{[]}
use native.Mathlib.Nat.{zero-add, eq-or-lt_of_le}
use native.Mathlib.Numerals.{add-one}
use native.Mathlib.Omega.{arith}
use lib.ListN.{length, get_or, take, drop}
use Rattle.loc_leaf.specs.declared.Kind.{Kind}
use Rattle.loc_leaf.specs.declared.Value.{Value}
use Rattle.loc_leaf.specs.Bytes.{Bytes}
use Rattle.loc_leaf.specs.Slot.{needs_row, inline}
use Rattle.loc_leaf.specs.Rows.{row_list, row_value, number_in, value_in}
use Rattle.loc_leaf.proofs.RowLaws.{rising, rows_count}
use Rattle.loc_calls.specs.Areas.{Areas, areas}
use Rattle.loc_calls.specs.Reading.{sum_after, all_after, lookup_at, has, value_at, strides_after, spans_after}
use Rattle.loc_leaf.specs.Block.{slot_bytes, row_bit, sum_from}
use Rattle.loc_window.specs.Window.{window_areas, complete, Rising, Copied}
use Rattle.loc_window.proofs.BlockLaws.{sum_same}
use Rattle.loc_window.proofs.SumLaws.{lookup_is}
use Rattle.loc_window.proofs.WindowLaws.{part_copied, complete_same, strides_same, spans_same}
use Rattle.loc_total.specs.declared.Total.{Total}
use Rattle.loc_total.specs.Slots.{SlotTotal}
use Rattle.loc_total.specs.Total.{Totalled, lookup_from, value_or, lack, value_from, lack_from, WithRows}
use Rattle.loc_total.proofs.SumLaws.{sum_next, sum_changed, bits_low}
use Rattle.loc_total.proofs.SlotLaws.{total_of}
use Rattle.loc_total.proofs.PlaceLaws.{from_other, from_here, from_behind, from_past}

module _ (k : Kind) (f : ℕ) (bytes rows : Bytes) (m : ℕ) where
  -- what a record's number and lookup give, added up by the rows from a place on
  abbrev sum_of : (ℕ → Option Value → ℕ) → ℕ → ℕ
  sum_of g p = sum_from (λ i. g i (lookup_from k f bytes rows p i)) 0 m

  -- the three sums
  abbrev strides : ℕ → Option Value → ℕ
  strides i l = (value_or (inline k (slot_bytes bytes i)) l).strides

  abbrev spans : ℕ → Option Value → ℕ
  spans i l = (value_or (inline k (slot_bytes bytes i)) l).spans

  -- ---- no row

  pub with_none : (nr : ℕ) (t : Total) → Rising k rows nr → SlotTotal k bytes m t → WithRows k f bytes rows m nr t
  unfolding value_or lack
  with_none nr t r p =
      record {
        is_strides = p.is_strides ∙ same strides (λ i. (inline k (slot_bytes bytes i)).strides) (λ i. value i (λ v. v.strides));
        is_spans = p.is_spans ∙ same spans (λ i. (inline k (slot_bytes bytes i)).spans) (λ i. value i (λ v. v.spans));
        is_lacking = p.is_lacking ∙ same (λ _ l. lack l) (row_bit k bytes) (λ i. bit (needs_row k (slot_bytes bytes i)) (inline k (slot_bytes bytes i)));
        strides_low = omega (arith, p.strides_low, p.is_lacking, bits_low k bytes 0 m);
        spans_low = omega (arith, p.spans_low, p.is_lacking, bits_low k bytes 0 m);
      }
    where
      past : (i : ℕ) → lookup_from k f bytes rows nr i ≡ cond (needs_row k (slot_bytes bytes i)) None (Some (inline k (slot_bytes bytes i)))
      past i = ap (λ (n : ℕ). lookup_from k f bytes rows n i) (r.counted ∙ sym (rows_count k rows)) ∙ from_past k f bytes rows i

      same : (g : ℕ → Option Value → ℕ) (h : ℕ → ℕ) → ((i : ℕ) → g i (cond (needs_row k (slot_bytes bytes i)) None (Some (inline k (slot_bytes bytes i)))) ≡ h i) → sum_from h 0 m ≡ sum_of g nr
      same g h e = sum_same h (λ i. g i (lookup_from k f bytes rows nr i)) 0 0 m (λ i l. sym (ap (g (0 + i)) (past (0 + i)) ∙ e (0 + i)))

      either : (b : Bool) (v : Value) → value_or v (cond b None (Some v)) ≡ v
      either true v = refl
      either false v = refl

      value : (i : ℕ) (g : Value → ℕ) → g (value_or (inline k (slot_bytes bytes i)) (cond (needs_row k (slot_bytes bytes i)) None (Some (inline k (slot_bytes bytes i))))) ≡ g (inline k (slot_bytes bytes i))
      value i g = ap g (either (needs_row k (slot_bytes bytes i)) (inline k (slot_bytes bytes i)))

      bit : (b : Bool) (v : Value) → lack (cond b None (Some v)) ≡ cond b 1 0
      bit true v = refl
      bit false v = refl

  -- ---- rows that change nothing

  pub with_at : (p p' : ℕ) (t : Total) → p ≡ p' → WithRows k f bytes rows m p t → WithRows k f bytes rows m p' t
  with_at p p' t e w = subst (λ (n : ℕ). WithRows k f bytes rows m n t) e w

  with_alike : (p p' : ℕ) (t : Total) → ((i : ℕ) → i < m → lookup_from k f bytes rows p i ≡ lookup_from k f bytes rows p' i) → WithRows k f bytes rows m p t → WithRows k f bytes rows m p' t
  with_alike p p' t e w =
      record {
        is_strides = w.is_strides ∙ same strides;
        is_spans = w.is_spans ∙ same spans;
        is_lacking = w.is_lacking ∙ same (λ _ l. lack l);
        strides_low = w.strides_low;
        spans_low = w.spans_low;
      }
    where
      same : (g : ℕ → Option Value → ℕ) → sum_of g p ≡ sum_of g p'
      same g = sum_same _ _ 0 0 m (λ i l. ap (g (0 + i)) (e (0 + i) (omega arith)))

  module _ (nr : ℕ) (r : Rising k rows nr) where
    within : (p : ℕ) → p < nr → p < length (row_list k rows)
    within p h = omega (arith, rows_count k rows, r.counted)

    -- a row that no record needs
    with_other : (p : ℕ) (t : Total) → p < nr → ((i : ℕ) → i < m → number_in (row_list k rows) p ≡ f + suc i → needs_row k (slot_bytes bytes i) ≡ false)
        → WithRows k f bytes rows m (p + 1) t → WithRows k f bytes rows m p t
    with_other p t h d w =
        with_alike (p + 1) p t (λ i l. sym (from_other k f bytes rows i 1 p (omega (arith, within p h)) (λ q a b e. d i l (at q a b ∙ e)))) w
      where
        at : (q : ℕ) → p ≤ q → q < p + 1 → number_in (row_list k rows) p ≡ number_in (row_list k rows) q
        at q a b = let e : p ≡ q = omega arith in ap (number_in (row_list k rows)) e

    -- rows of records up to f
    pub with_all : (p : ℕ) (t : Total) → p < nr → number_in (row_list k rows) p ≤ f → WithRows k f bytes rows m (p + 1) t → WithRows k f bytes rows m 0 t
    with_all p t h l w =
        with_alike (p + 1) 0 t (λ i _. sym (from_other k f bytes rows i (p + 1) 0 (omega (arith, within p h)) (λ q a b e. absurd (omega (arith, up_to q (omega arith))))
        ∙ ap (λ (n : ℕ). lookup_from k f bytes rows n i) (zero-add (p + 1)))) w
      where
        up_to : (q : ℕ) → q ≤ p → number_in (row_list k rows) q ≤ f
        up_to q g =
            ⊎_elim
            (λ (e : q ≡ p). rw e l)
            (λ (s : q < p). omega (arith, rising 0 (row_list k rows) r.ascend q p s (within p h)))
            (eq-or-lt_of_le g)

    -- ---- one row more, which is numbered id: it is record j's

    module _ (p id : ℕ) (t : Total) (h : p < nr) (ei : id ≡ number_in (row_list k rows) p) (g : f < id) (w : WithRows k f bytes rows m (p + 1) t) where
      abbrev j : ℕ
      j = id - f - 1

      pub row_outside : m ≤ j → WithRows k f bytes rows m p t
      row_outside d = with_other p t h (λ i l e. absurd (omega arith)) w

      module _ (b : Bool) (eb : b ≡ needs_row k (slot_bytes bytes j)) where
        pub row_unneeded : b ≡ false → WithRows k f bytes rows m p t
        row_unneeded z = with_other p t h (λ i l e. let q : j ≡ i = omega arith in subst (λ (n : ℕ). needs_row k (slot_bytes bytes n) ≡ false) q (sym eb ∙ z)) w

        -- the record needs it
        module _ (l : j < m) (tb : b ≡ true) (s v : Value) (es : s ≡ inline k (slot_bytes bytes j)) (ev : v ≡ row_value k (get_or (row_list k rows) p [])) where
          e : number_in (row_list k rows) p ≡ f + suc j
          e = omega arith

          needs : needs_row k (slot_bytes bytes j) ≡ true
          needs = sym eb ∙ tb

          -- a sum changes at record j alone
          changed : (g : ℕ → Option Value → ℕ) → (sum_of g p + g j None ≡ sum_of g (p + 1) + g j (Some v)) × (g j None ≤ sum_of g (p + 1))
          changed g = (omega (arith, here, behind, it.0), omega (arith, behind, it.1))
            where
              here : g j (lookup_from k f bytes rows p j) ≡ g j (Some v)
              here = ap (g j) (from_here k f bytes rows j p (within p h) e needs ∙ ap (λ (u : Value). Some u) (sym ev))

              behind : g j (lookup_from k f bytes rows (p + 1) j) ≡ g j None
              behind = ap (g j) (from_behind k f bytes rows j r.ascend p (within p h) e needs)

              other : (i : ℕ) → i < m → (i ≡ j → ⊥) → g i (lookup_from k f bytes rows p i) ≡ g i (lookup_from k f bytes rows (p + 1) i)
              other i q d = ap (g i) (from_other k f bytes rows i 1 p (omega (arith, within p h)) (λ n a b c. absurd (d (number n a b c))))
                where
                  number : (n : ℕ) → p ≤ n → n < p + 1 → number_in (row_list k rows) n ≡ f + suc i → i ≡ j
                  number n a b c = let z : n ≡ p = omega arith in omega (arith, ap (number_in (row_list k rows)) z)

              it : (sum_of g p + g j (lookup_from k f bytes rows (p + 1) j) ≡ sum_of g (p + 1) + g j (lookup_from k f bytes rows p j)) × (g j (lookup_from k f bytes rows (p + 1) j) ≤ sum_of g (p + 1))
              it = sum_changed (λ i. g i (lookup_from k f bytes rows p i)) (λ i. g i (lookup_from k f bytes rows (p + 1) i)) m j l other

          -- the sums have its bytes
          pub row_held : (s.strides ≤ t.strides) × (s.spans ≤ t.spans) × (1 ≤ t.lacking)
          unfolding value_or lack
          row_held = (
            omega (arith, (changed strides).1, w.is_strides, ap (λ (u : Value). u.strides) es),
            omega (arith, (changed spans).1, w.is_spans, ap (λ (u : Value). u.spans) es),
            omega (arith, (changed (λ _ l. lack l)).1, w.is_lacking),
          )

          -- the row in their place
          pub row_placed : (x y z : ℕ) → v.strides < 2 ^ 32 → v.spans < 2 ^ 32 → x ≡ t.strides - s.strides + v.strides → y ≡ t.spans - s.spans + v.spans → z ≡ t.lacking - 1
              → WithRows k f bytes rows m p (total_of x y z)
          unfolding value_or lack
          row_placed x y z hx hy ex ey ez =
              let bx = row_held.0 in
              let by = row_held.1 in
              let bz = row_held.2 in
              record {
                is_strides = omega (arith, (changed strides).0, w.is_strides, ap (λ (u : Value). u.strides) es);
                is_spans = omega (arith, (changed spans).0, w.is_spans, ap (λ (u : Value). u.spans) es);
                is_lacking = omega (arith, (changed (λ _ l. lack l)).0, w.is_lacking);
                strides_low = omega (arith, w.strides_low);
                spans_low = omega (arith, w.spans_low);
              }

-- ---- as a reading has them

-- over the numbers that follow f
after_sum : (h : ℕ → ℕ) (f m : ℕ) → sum_after h f m ≡ sum_from (λ i. h (f + suc i)) 0 m
unfolding sum_after sum_from
after_sum h f zero = refl
after_sum h f (suc n) = (λ i. after_sum h f n i + h (f + suc n)) ∙ sym (ap (sum_from (λ i. h (f + suc i)) 0) (sym (add-one n)) ∙ sum_next (λ i. h (f + suc i)) n)

-- how many of them lack their row, and whether one does
module _ (at : ℕ → Option Value) (f : ℕ) where
  abbrev lacking : ℕ → ℕ
  lacking m = sum_from (λ i. lack (at (f + suc i))) 0 m

  abbrev Says : ℕ → Type 0
  Says m = (lacking m ≡ 0 → all_after (λ i. has (at i)) f m ≡ true) × ((lacking m ≡ 0 → ⊥) → all_after (λ i. has (at i)) f m ≡ false)

  all_says : (m : ℕ) → Says m
  unfolding sum_from all_after lack has
  all_says zero = (λ _. refl, λ d. absurd (d refl))
  all_says (suc n) = go (at (f + suc n)) refl (all_says n)
    where
      next : (l : Option Value) → at (f + suc n) ≡ l → lacking (suc n) ≡ lacking n + lack l
      next l e = ap lacking (sym (add-one n)) ∙ sum_next (λ i. lack (at (f + suc i))) n ∙ ap (λ (u : Option Value). lacking n + lack u) e

      both : (b : Bool) (l : Option Value) → at (f + suc n) ≡ l → all_after (λ i. has (at i)) f n ≡ b → all_after (λ i. has (at i)) f (suc n) ≡ (b && has l)
      both b l e q = (λ i. q i && has (e i))

      go : (l : Option Value) → at (f + suc n) ≡ l → Says n → Says (suc n)
      go (Some v) e s = (
        λ z. both true (Some v) e (s.0 (omega (arith, next (Some v) e))),
        λ d. both false (Some v) e (s.1 (λ z. d (omega (arith, next (Some v) e)))),
      )
      go None e s = (
        λ z. absurd (omega (arith, next None e)),
        λ d. both (all_after (λ i. has (at i)) f n) None e refl ∙ and-false (all_after (λ i. has (at i)) f n),
      )

-- a record that lacks no row has its own value
own : (v : Value) (l : Option Value) → lack l ≡ 0 → value_or v l ≡ value_in l
unfolding value_or lack value_in
own v (Some u) e = refl
own v None e = absurd (omega arith)

module _ (k : Kind) (f : ℕ) (bytes rows : Bytes) (m : ℕ) (t : Total) (w : WithRows k f bytes rows m 0 t) where
  abbrev there : Areas
  there = window_areas f bytes rows

  looked : (i : ℕ) → lookup_from k f bytes rows 0 i ≡ lookup_at k there (f + suc i)
  unfolding lookup_from
  looked i = sym (lookup_is k f bytes rows i)

  lacking_is : t.lacking ≡ lacking (lookup_at k there) f m
  lacking_is = w.is_lacking ∙ sum_same _ _ 0 0 m (λ i h. ap lack (looked (0 + i)))

  -- what the records' values give, added up
  value_sum : (g : Value → ℕ) → t.lacking ≡ 0 → sum_from (λ i. g (value_from k f bytes rows 0 i)) 0 m ≡ sum_after (λ i. g (value_at k there i)) f m
  unfolding value_at
  value_sum g z = sum_same _ _ 0 0 m (λ i h. ap g (value (0 + i) (omega arith))) ∙ sym (after_sum (λ i. g (value_at k there i)) f m)
    where
      none : (i : ℕ) → i < m → lack_from k f bytes rows 0 i ≡ 0
      none i h = omega (arith, w.is_lacking, (sum_changed (lack_from k f bytes rows 0) (lack_from k f bytes rows 0) m i h (λ _ _ _. refl)).1)

      value : (i : ℕ) → i < m → value_from k f bytes rows 0 i ≡ value_in (lookup_at k there (f + suc i))
      value i h = own (inline k (slot_bytes bytes i)) (lookup_from k f bytes rows 0 i) (none i h) ∙ ap value_in (looked i)

  pub with_totalled : Totalled k there f m t
  unfolding strides_after spans_after
  with_totalled =
      record {
        known = λ z. (all_says (lookup_at k there) f m).0 (sym lacking_is ∙ z);
        lacks = λ d. (all_says (lookup_at k there) f m).1 (λ z. d (lacking_is ∙ z));
        is_strides = λ z. w.is_strides ∙ value_sum (λ v. v.strides) z;
        is_spans = λ z. w.is_spans ∙ value_sum (λ v. v.spans) z;
        strides_low = omega (arith, w.strides_low);
        spans_low = omega (arith, w.spans_low);
      }

-- ---- in the areas themselves

-- where the bytes are a part of the slots: d of them, from record f's end on
module _ (k : Kind) (slots rows c : Bytes) (f m d : ℕ) (e : d ≡ 2 * m) where
  abbrev part : Bytes
  part = take d (drop (16 + 2 * f) slots)

  abbrev whole : Areas
  whole = areas slots rows c

  copied : Copied slots (16 + 2 * f) (2 * m) part part
  copied = part_copied slots (16 + 2 * f) (2 * m) d (omega arith)

  all : complete k (window_areas f part rows) f m ≡ complete k whole f m
  all = complete_same k whole f m part part copied m (omega arith)

  pub part_totalled : (t : Total) → Totalled k (window_areas f part rows) f m t → Totalled k whole f m t
  part_totalled t w =
      record {
        known = λ z. sym all ∙ w.known z;
        lacks = λ z. sym all ∙ w.lacks z;
        is_strides = λ z. w.is_strides z ∙ strides_same k whole f m part part copied m (omega arith);
        is_spans = λ z. w.is_spans z ∙ spans_same k whole f m part part copied m (omega arith);
        strides_low = w.strides_low;
        spans_low = w.spans_low;
      }
