-- One record more: by its slot, by its row, or the row is lacking; and the records of a walk, each of whose sums is stored.
-- Each law takes what the code's calls say.
use Prim.Native.Nat.{ℕ, ◌+◌, ◌^◌, ◌≤◌, ◌<◌}
use mathlib.Core.Path.{◌≡◌, sym, ap, ◌∙◌, subst}
use mathlib.Core.Bool.{Bool, true, false}
use mathlib.Core.List.{List, []}
use native.Mathlib.Omega.{arith}
use lib.ListN.{length, get_or, set, length-set}
use Rattle.std.specs.Prelude.{Option, Some, None}
use Rattle.loc_leaf.specs.declared.Kind.{Kind}
use Rattle.loc_leaf.specs.declared.Value.{Value}
use Rattle.loc_leaf.specs.Bytes.{Bytes}
use Rattle.loc_leaf.specs.Slot.{needs_row, inline}
use Rattle.loc_leaf.specs.Rows.{row_list, row_value}
use Rattle.loc_calls.specs.Reading.{lookup_at, has}
use Rattle.loc_window.specs.declared.Sums.{Sums}
use Rattle.loc_window.specs.Window.{window_areas, complete, After, plus_value, slot_bytes, FoundRow, Written, OneMore}
use Rattle.loc_window.proofs.SumLaws.{all_more, step_inline, step_row, lacks_row, written_next}

module _ (k : Kind) (f : ℕ) (bytes rows : Bytes) where
  -- by its slot
  pub more_inline : (n : ℕ) (s t : Sums) (b : Bool) (v : Value) → b ≡ needs_row k (slot_bytes bytes n) → b ≡ false → v ≡ inline k (slot_bytes bytes n) → v.strides < 2 ^ 32 → v.spans < 2 ^ 32
      → t ≡ plus_value s v s.row → After k f bytes rows n s → OneMore k f bytes rows n s (Some t)
  more_inline n s t b v e plain ev hs hp et w = (ap (λ (u : Sums). u.block) et, step_inline k f bytes rows n s t v (sym e ∙ plain) w ev et hs hp)

  module _ (n id : ℕ) (s : Sums) (b : Bool) (e : b ≡ needs_row k (slot_bytes bytes n)) (taken : b ≡ true) (ei : id ≡ f + n + 1) where
    -- by its row
    pub more_row : (past r : ℕ) (t : Sums) (v : Value) → FoundRow k rows past id (Some r) → v ≡ row_value k (get_or (row_list k rows) r []) → v.strides < 2 ^ 32 → v.spans < 2 ^ 32
        → t ≡ plus_value s v (r + 1) → After k f bytes rows n s → OneMore k f bytes rows n s (Some t)
    more_row past r t v found ev hs hp et w = (
      ap (λ (u : Sums). u.block) et,
      rw et (step_row k f bytes rows n id (sym e ∙ taken) (omega arith) r s v w found.1 ev hs hp),
    )

    -- without its row
    pub more_none : (past : ℕ) → FoundRow k rows past id None → OneMore k f bytes rows n s None
    more_none past missing = lacks_row k f bytes rows n id (sym e ∙ taken) (omega arith) missing

  -- a record before record m lacks its row
  pub lacks_before : (n m : ℕ) (s : Sums) (r : Option Sums) → OneMore k f bytes rows n s r → r ≡ None → n < m → complete k (window_areas f bytes rows) f m ≡ false
  lacks_before n m s r v e h = all_more (λ i. has (lookup_at k (window_areas f bytes rows) i)) f (n + 1) m (subst (OneMore k f bytes rows n s) e v) (omega arith)

  -- one record more, whose sums are stored
  pub turned : (from i n block x₀ y₀ : ℕ) (s t : Sums) (r : Option Sums) (body₀ span₀ body span : List ℕ) → from ≤ i → i < n → n < length body₀ → n < length span₀
      → Written k f bytes rows from i (set body₀ from x₀) (set span₀ from y₀) body span → s.block ≡ block → OneMore k f bytes rows i s r → r ≡ Some t
      → (t.block ≡ block) × After k f bytes rows (i + 1) t
      × Written k f bytes rows from (i + 1) (set body₀ from x₀) (set span₀ from y₀) (set body (i + 1) t.strides) (set span (i + 1) t.spans)
  turned from i n block x₀ y₀ s t r body₀ span₀ body span h l hb hs v same m e =
      let w : (t.block ≡ s.block) × After k f bytes rows (i + 1) t = subst (OneMore k f bytes rows i s) e m in (
        w.0 ∙ same,
        w.1,
        written_next k f bytes rows from i t (set body₀ from x₀) (set span₀ from y₀) body span h v w.1
            (omega (arith, length-set body₀ from x₀)) (omega (arith, length-set span₀ from y₀)),
      )
