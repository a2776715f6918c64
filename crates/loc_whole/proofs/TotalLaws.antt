-- Records of a part of the slots are those of the areas; sums of records that follow one another.
-- A part of the slots stands in for reading's copy of them.
use Prim.Native.Nat.{ℕ, zero, suc, ◌+◌, ◌-◌, ◌*◌, ◌/◌, ◌≤◌, ◌<◌}
use mathlib.Core.Path.{◌≡◌, refl, sym, ap, ◌∙◌, subst}
use mathlib.Core.Bool.{Bool, true, false, not, ◌&&◌, and-true, true≢false}
use mir.Val.{bool_byte}
use mathlib.Core.List.{List}
use native.Mathlib.Nat.{add-zero, add-suc}
use native.Mathlib.Numerals.{add-one}
use native.Mathlib.Omega.{arith}
use lib.ListN.{length, get_or, take, drop, replicate, length-drop, length-replicate}
use lib.Seq.{length-take-le}
use Rattle.loc_leaf.specs.declared.Kind.TheVariants.{Paired}
use Rattle.loc_leaf.specs.Bytes.{Bytes}
use Rattle.loc_leaf.specs.Rows.{row_list}
use Rattle.loc_calls.specs.Areas.{Areas, areas}
use Rattle.loc_calls.specs.Reading.{sum_after, all_after, lookup_at, has, value_at, complete, spans_after}
use Rattle.loc_window.specs.declared.Sums.{Sums}
use Rattle.std.specs.Prelude.{Option, Some, None}
use Rattle.loc_window.specs.Window.{window_areas, Passed, After, sums_of, Right, SumsStored, Summing, WindowSummed, Copied}
use Rattle.loc_window.proofs.PlannedLaws.{all_before}
use Rattle.loc_window.proofs.WindowLaws.{part_copied, complete_same, strides_same, spans_same, right_spans}
use Rattle.loc_window.proofs.SummingLaws.{summing_begins}
use Rattle.loc_whole.specs.Totals.{Walkable, Totals, Running, Totalled}

-- ---- fewer records, and those after them

module _ (slots rows : Bytes) (nr f m row : ℕ) (g : Walkable slots rows nr f m row) (n : ℕ) where
  pub walkable_first : 0 < n → n ≤ m → Walkable slots rows nr f n row
  walkable_first l h = record {
    some = l;
    few = omega (arith, g.few);
    room = omega (arith, g.room);
    low = omega (arith, g.low);
    rise = g.rise;
    passed = g.passed;
  }

  -- from the rows on that the first n pass
  pub walkable_rest : n < m → (row' : ℕ) → Passed (row_list Paired rows) row' (f + n) → Walkable slots rows nr (f + n) (m - n) row'
  walkable_rest h row' p = record {
    some = omega arith;
    few = omega (arith, g.few);
    room = omega (arith, g.room);
    low = omega (arith, g.low);
    rise = g.rise;
    passed = p;
  }

-- ---- a part of the slots

-- d bytes of them, from record f's end on
abbrev part : Bytes → ℕ → ℕ → Bytes
part slots f d = take d (drop (16 + 2 * f) slots)

marked : (n i : ℕ) → get_or (replicate {A = ℕ} n 0) i 0 ≡ 0
marked zero i = refl
marked (suc n) zero = refl
marked (suc n) (suc i) = marked n i

module _ (a : Areas) (f m : ℕ) (some : 0 < m) where
  abbrev lent : Bytes
  lent = part a.slots f (2 * m)

  copied : Copied a.slots (16 + 2 * f) (2 * m) lent lent
  copied = part_copied a.slots (16 + 2 * f) (2 * m) (2 * m) (omega arith)

  part_known : complete Paired (window_areas f lent a.rows) f m ≡ complete Paired a f m
  part_known = complete_same Paired a f m lent lent copied m (omega arith)

  part_sums : (s : Sums) → After Paired f lent a.rows m s → Totals a f m s
  part_sums s w =
      record {
        known = sym part_known ∙ w.known;
        is_strides = w.is_strides ∙ strides_same Paired a f m lent lent copied m (omega arith);
        is_spans = w.is_spans ∙ spans_same Paired a f m lent lent copied m (omega arith);
        strides_low = w.strides_low;
        spans_low = w.spans_low;
        passed = w.passed;
      }

  -- every block is marked
  part_running : (mark body span : List ℕ) → mark ≡ replicate 128 0 → SumsStored Paired f lent a.rows mark 0 m body span → Running a f m span
  part_running mark body span e w zero h = right_spans Paired a f m lent lent copied 0 body span h (w.here 0 some (ap (λ (l : List ℕ). get_or l 0 0) e))
  part_running mark body span e w (suc j) h =
      right_spans Paired a f m lent lent copied (suc j) body span h
      (subst (λ (i : ℕ). Right Paired f lent a.rows i body span) (add-one j) (w.next j h (ap (λ (l : List ℕ). get_or l (j / 8) 0) e ∙ marked 128 (j / 8))))

  part_totalled : (mark : List ℕ) (stamp : ℕ) (each : Bool) (body span : List ℕ) (r : Option Sums) → mark ≡ replicate 128 0 → (each ≡ true → stamp ≡ 0)
      → WindowSummed Paired f lent a.rows mark stamp m body span r → Totalled a f m each span r
  unfolding WindowSummed Totalled
  part_totalled mark stamp each body span (Some s) e es w = (
    part_sums s w.0,
    λ z. part_running mark body span e (subst (λ (i : ℕ). SumsStored Paired f lent a.rows mark i m body span) (es z) w.1),
  )
  part_totalled mark stamp each body span None e es w = sym part_known ∙ w

-- the part as the code takes it: d bytes
module _ (slots rows : Bytes) (nr f m row : ℕ) (g : Walkable slots rows nr f m row) (d : ℕ) (e : d ≡ 2 * m) (mark : List ℕ) (stamp : ℕ) where
  part_long : length (part slots f d) ≡ 2 * m
  part_long = length-take-le d (drop (16 + 2 * f) slots) (omega (arith, length-drop (16 + 2 * f) slots, g.room)) ∙ e

  pub totals_ask : (body span : List ℕ) → mark ≡ replicate 128 0 → length body ≡ 257 → length span ≡ 257
      → (length mark ≡ 128) × Summing Paired (length body) f m (part slots f d) rows nr mark stamp 0 (sums_of 0 0 row 0) body span
  totals_ask body span em eb es = (
    ap length em ∙ length-replicate {A = ℕ} 128 0,
    summing_begins Paired (length body) f m (part slots f d) rows nr mark stamp row body span (omega (arith, g.few)) (omega (arith, g.few)) (omega (arith, g.low)) (all_before Paired rows nr g.rise (f + 1024)) g.passed
        (omega (arith, part_long)) refl (es ∙ sym eb),
  )

  pub totals_are : (c : Bytes) (each : Bool) (body span : List ℕ) (r : Option Sums) → mark ≡ replicate 128 0 → stamp ≡ bool_byte (not each) → WindowSummed Paired f (part slots f d) rows mark stamp m body span r
      → Totalled (areas slots rows c) f m each span r
  totals_are c each body span r em es v =
      part_totalled (areas slots rows c) f m g.some mark stamp each body span r em (λ z. es ∙ ap (λ (b : Bool). bool_byte (not b)) z)
      (subst (λ (i : ℕ). WindowSummed Paired f (part slots f i) rows mark stamp m body span r) e v)

-- ---- by what is returned

module _ (a : Areas) (f m : ℕ) (each : Bool) (span : List ℕ) (r : Option Sums) (v : Totalled a f m each span r) where
  pub totalled_next : (s : Sums) → r ≡ Some s → Totals a f m s
  unfolding Totalled
  totalled_next s e = (subst (Totalled a f m each span) e v).0

  pub totalled_lack : r ≡ None → complete Paired a f m ≡ false
  unfolding Totalled
  totalled_lack e = subst (Totalled a f m each span) e v

-- where none lacks its row the sums are there, whatever is returned
pub totalled_running : (a : Areas) (f m : ℕ) (span : List ℕ) (r : Option Sums) → complete Paired a f m ≡ true → Totalled a f m true span r → Running a f m span
unfolding Totalled
totalled_running a f m span (Some s) e v = v.1 refl
totalled_running a f m span None e v = absurd (true≢false (sym e ∙ v))

-- ---- records that follow one another

module _ (f m : ℕ) where
  sum_parts : (g : ℕ → ℕ) (n : ℕ) → sum_after g f (m + n) ≡ sum_after g f m + sum_after g (f + m) n
  unfolding sum_after
  sum_parts g zero = rw (add-zero m) (omega arith)
  sum_parts g (suc n) = rw (add-suc m n) (omega (arith, sum_parts g n, ap g next))
    where
      next : f + suc (m + n) ≡ f + m + suc n
      next = omega arith

  all_parts : (g : ℕ → Bool) (n : ℕ) → all_after g f (m + n) ≡ (all_after g f m && all_after g (f + m) n)
  unfolding all_after
  all_parts g zero = rw (add-zero m) (sym (and-true (all_after g f m)))
  all_parts g (suc n) = rw (add-suc m n, all_parts g n, next) (and_assoc (all_after g f m) (all_after g (f + m) n) (g (f + m + suc n)))
    where
      next : f + suc (m + n) ≡ f + m + suc n
      next = omega arith

      and_assoc : (x y z : Bool) → ((x && y) && z) ≡ (x && (y && z))
      and_assoc true y z = refl
      and_assoc false y z = refl

module _ (a : Areas) (f : ℕ) where
  pub spans_none : spans_after Paired a f 0 ≡ 0
  unfolding spans_after sum_after
  spans_none = refl

  pub spans_next : (j : ℕ) → spans_after Paired a f (suc j) ≡ spans_after Paired a f j + (value_at Paired a (f + suc j)).spans
  unfolding spans_after sum_after
  spans_next j = refl

  pub spans_parts : (m n : ℕ) → spans_after Paired a f (m + n) ≡ spans_after Paired a f m + spans_after Paired a (f + m) n
  unfolding spans_after
  spans_parts m n = sum_parts f m _ n

  pub known_parts : (m n : ℕ) → complete Paired a f (m + n) ≡ (complete Paired a f m && complete Paired a (f + m) n)
  known_parts m n = all_parts f m (λ i. has (lookup_at Paired a i)) n
