-- How many records are durable (document 02, Item 10), where the row area has reached the medium up to a length d.
-- For an index that demand 3 covers it is the largest n for which the first n records use durable rows only (loc_history).
use Rattle.loc_leaf.specs.declared.Value.{Value}
use Rattle.std.specs.Prelude.{ℕ, ◌-◌, ◌/◌, ◌%◌, ◌≤◌, ◌<◌, ◌≡◌, Bool, true, false, cond, ◌&&◌, List, [], leb, eqb, take, Option}
use Rattle.loc_leaf.specs.declared.Kind.{Kind}
use Rattle.loc_leaf.specs.Bytes.{Bytes}
use Rattle.loc_leaf.specs.Answers.{answer}
use Rattle.loc_leaf.specs.Area.{counted}
use Rattle.loc_leaf.specs.Kind.{row_width}
use Rattle.loc_leaf.specs.Slot.{slot_at}
use Rattle.loc_leaf.specs.Rows.{row_list, last_number, slot_value}
use Rattle.loc_leaf.specs.Cut.{cut_for}
use Rattle.loc_calls.specs.Areas.{Areas, count}
use Rattle.loc_calls.specs.Stores.{row_bytes_at}
use Rattle.loc_calls.specs.Reading.{all_after, has}
use Rattle.loc_calls.specs.Calls.{Outcome, first_refusal}

-- 16, or a whole number of rows past it
unfoldable pub on_edge : Kind → ℕ → Bool
on_edge k d = leb 16 d && eqb ((d - 16) % row_width k) 0

-- at or past the published end gives the count n; below 16, or not on a row's edge, gives 0; otherwise a cut decides
unfoldable pub limited : Kind → ℕ → ℕ → ℕ → ℕ → ℕ
limited k d end n cut = cond (leb end d) n (cond (on_edge k d) cut 0)

-- the published rows before a length
unfoldable pub rows_before : Kind → ℕ → Bytes → List Bytes
rows_before k d rows = take ((d - 16) / row_width k) (row_list k rows)

-- the cut rule runs on the row at that length, the last row before it counting as last; no cut gives the count
unfoldable pub cut_at : Kind → ℕ → Areas → ℕ
cut_at k d a = cut_for k a.slots (count a) (last_number 0 (rows_before k d a.rows)) (row_bytes_at k d a.rows)

unfoldable pub withheld_limit : Kind → ℕ → Areas → ℕ
withheld_limit k d a = limited k d (counted a.rows) (count a) (cut_at k d a)

-- 1 and 6 apply
unfoldable pub withheld : Kind → ℕ → Areas → Outcome
withheld k d a = record { answer = answer (first_refusal k a) (withheld_limit k d a); buffer = []; areas = a }

-- ---- what the answer means

-- what slot and durable row say of record id
unfoldable pub durable_at : Kind → ℕ → Areas → ℕ → Option Value
durable_at k d a id = slot_value k (rows_before k d a.rows) id (slot_at a.slots id)

-- the first n records use durable rows only: none of them needs a row that is not among those
abbrev pub all_durable : Kind → ℕ → Areas → ℕ → Bool
all_durable k d a n = all_after (λ i. has (durable_at k d a i)) 0 n

-- n will do at any length; on a row's edge it is the largest that will
pub record Durable (k : Kind) (d : ℕ) (a : Areas) (n : ℕ) : Type 0 where
  pub inside : n ≤ count a
  pub durable : all_durable k d a n ≡ true
  pub largest : on_edge k d ≡ true → (m : ℕ) → n < m → m ≤ count a → all_durable k d a m ≡ false
