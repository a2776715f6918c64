-- What the m records that follow record f add up to, in the areas themselves.
-- Of an inner crate: nr counts the rows, of which `row` are passed before the records.
use Rattle.std.specs.Prelude.{ℕ, ◌+◌, ◌*◌, ◌^◌, ◌≤◌, ◌<◌, ◌≡◌, Bool, true, false, Option, Some, None, List, length, get_or}
use Rattle.loc_leaf.specs.declared.Kind.TheVariants.{Paired}
use Rattle.loc_leaf.specs.Bytes.{Bytes}
use Rattle.loc_leaf.specs.Rows.{row_list}
use Rattle.loc_calls.specs.Areas.{Areas}
use Rattle.loc_calls.specs.Reading.{complete, strides_after, spans_after}
use Rattle.loc_window.specs.declared.Sums.{Sums}
use Rattle.loc_window.specs.Window.{Passed, Rising}

-- what a walk over them asks of slots and rows
pub record Walkable (slots rows : Bytes) (nr f m row : ℕ) : Type 0 where
  pub some : 0 < m
  pub few : m ≤ 256
  pub room : 16 + 2 * (f + m) ≤ length slots
  pub low : 16 + 2 * (f + m) < 2 ^ 64
  pub rise : Rising Paired rows nr
  pub passed : Passed (row_list Paired rows) row f

-- s is what they add up to
pub record Totals (a : Areas) (f m : ℕ) (s : Sums) : Type 0 where
  pub known : complete Paired a f m ≡ true
  pub is_strides : s.strides ≡ strides_after Paired a f m
  pub is_spans : s.spans ≡ spans_after Paired a f m
  pub strides_low : s.strides ≤ m * 2 ^ 32
  pub spans_low : s.spans ≤ m * 2 ^ 32
  pub passed : Passed (row_list Paired a.rows) s.row (f + m)

-- the spans of each number of them stand in the list
abbrev pub Running : Areas → ℕ → ℕ → List ℕ → Type 0
Running a f m span = (j : ℕ) → j ≤ m → get_or span j 0 ≡ spans_after Paired a f j

-- their sums, and with `each` those of each number of them, or one of them lacks its row
unfoldable pub Totalled : Areas → ℕ → ℕ → Bool → List ℕ → Option Sums → Type 0
Totalled a f m each span (Some s) = Totals a f m s × (each ≡ true → Running a f m span)
Totalled a f m each span None = complete Paired a f m ≡ false
