-- Windows one after the other, by quarters of 256 records: what is known of one that is passed, and of all that are.
-- n is the count, nr counts the rows, x is the address.
use Rattle.std.specs.Prelude.{ℕ, ◌+◌, ◌*◌, ◌/◌, ◌%◌, ◌^◌, ◌≤◌, ◌<◌, min, ◌≡◌, true}
use Rattle.loc_leaf.specs.declared.Kind.TheVariants.{Paired}
use Rattle.loc_leaf.specs.Rows.{row_list}
use Rattle.loc_calls.specs.Areas.{Areas, count}
use Rattle.loc_calls.specs.Reading.{first_after, complete, spans_after, words_for}
use Rattle.loc_calls.specs.SpanAt.{Crossing, holds, crossing}
use Rattle.loc_window.specs.Window.{Passed}
use Rattle.loc_whole.specs.Totals.{Walkable}

-- the lowest of the n records that follow record m whose range holds the address, and the crossing in it
abbrev pub lowest_after : Areas → ℕ → ℕ → ℕ → ℕ
lowest_after a x m n = first_after (holds (words_for Paired a) x) m n

abbrev pub crossing_after : Areas → ℕ → ℕ → ℕ → Crossing
crossing_after a x m n = crossing (words_for Paired a) x (lowest_after a x m n)

-- quarter q has m records, none of which lacks its row, and so many spans, after those that its window has before it
pub record Quarter (a : Areas) (nr q m row before total : ℕ) : Type 0 where
  pub ready : Walkable a.slots a.rows nr (256 * q) m row
  pub few : m ≤ 256
  pub known : complete Paired a (256 * q) m ≡ true
  pub is_before : before ≡ spans_after Paired a (1024 * (q / 4)) (256 * (q % 4))
  pub is_total : total ≡ spans_after Paired a (256 * q) m
  pub counted : 256 * q + m ≤ count a

-- the quarters before q are passed: no record of theirs lacks its row, and this is the crossing in them
pub record Finding (a : Areas) (x n q row before : ℕ) (found : Crossing) : Type 0 where
  pub inside : 256 * q < n + 256
  pub known : complete Paired a 0 (min (256 * q) n) ≡ true
  pub passed : Passed (row_list Paired a.rows) row (min (256 * q) n)
  pub is_before : 256 * q < n → before ≡ spans_after Paired a (1024 * (q / 4)) (256 * (q % 4))
  pub before_low : before ≤ 256 * 2 ^ 32 * (q % 4)
  pub is_found : found ≡ crossing_after a x 0 (min (256 * q) n)
