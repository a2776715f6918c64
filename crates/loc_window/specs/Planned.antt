-- A planned window: how many of its records are looked at, and where its rows stand.
-- A row stands between the two places exactly when its number lies in the window (proofs/PlannedLaws).
use Rattle.std.specs.Prelude.{ℕ, ◌+◌, ◌≤◌, ◌≡◌, true, List}
use Rattle.loc_leaf.specs.declared.Kind.{Kind}
use Rattle.loc_leaf.specs.Bytes.{Bytes}
use Rattle.loc_leaf.specs.Area.{fill}
use Rattle.loc_leaf.specs.Kind.{row_width}
use Rattle.loc_leaf.specs.Rows.{row_list, ascending, rows_up_to}
use Rattle.loc_leaf.specs.Quarters.{Near}
use Rattle.loc_window.specs.declared.PlannedWindow.{PlannedWindow}

-- the window that follows record f, of which m records are looked at
abbrev pub planned : List Bytes → ℕ → ℕ → PlannedWindow
planned rs f m = record { base = f; m = m; first = rows_up_to f rs; past = rows_up_to (f + 1024) rs }

-- ---- the search for both places

-- each of the two places of the window that follows record f is at most `left` rows further on
pub record Nearing (k : Kind) (rows : Bytes) (f first past left : ℕ) : Type 0 where
  pub ascend : ascending 0 (row_list k rows) ≡ true
  pub first_in : first + left ≤ fill (row_width k) rows
  pub past_in : past + left ≤ fill (row_width k) rows
  pub first_near : Near first left (rows_up_to f (row_list k rows))
  pub past_near : Near past left (rows_up_to (f + 1024) (row_list k rows))
