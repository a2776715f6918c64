-- What the listing programs print, as one text: the line of names, then window by window a line for each record (document 01, "Listing program").
-- A refusal ends it with its line. Where no row is missing it is the index's listing (proofs/WholeLaws).
use Rattle.std.specs.Prelude.{ℕ, zero, suc, ◌+◌, ◌-◌, ◌*◌, ◌/◌, min, cond, List, [], ◌∷◌, ◌++◌, leb}
use Rattle.loc_leaf.specs.declared.Kind.TheVariants.{Paired}
use Rattle.loc_leaf.specs.Answers.{refuse, ◌or_else◌}
use Rattle.loc_calls.specs.Areas.{Areas, count}
use Rattle.loc_calls.specs.Reading.{any_missing}
use Rattle.loc_calls.specs.Calls.{Outcome, unless_refused, first_refusal}
use Rattle.loc_listing.specs.Text.{names, refused_line, refused_text}
use Rattle.loc_listing.specs.Listing.{lines_after}

-- ---- windows

-- the n numbers that follow m
unfoldable pub numbers_after : ℕ → ℕ → List ℕ
numbers_after m zero = []
numbers_after m (suc n) = numbers_after m n ++ ((m + suc n) ∷ [])

-- 1, 6, 17: what refuses a reading of the n records that follow record m
unfoldable pub window_refusal : Areas → ℕ → ℕ → ℕ
window_refusal a m n = first_refusal Paired a or_else refuse (any_missing Paired a (numbers_after m n)) 17

-- their lines, or the line of the refusal
unfoldable pub window_lines : Areas → ℕ → ℕ → List ℕ
window_lines a m n = unless_refused (window_refusal a m n) (lines_after a m n) (refused_line (window_refusal a m n))

-- how many records the window after record m has
abbrev pub window_size : Areas → ℕ → ℕ
window_size a m = min (count a - m) 1024

-- w windows from record m on; a refusal ends the text
unfoldable pub windows_from : Areas → ℕ → ℕ → List ℕ
windows_from a m zero = []
windows_from a m (suc w) =
    window_lines a m (window_size a m) ++ unless_refused (window_refusal a m (window_size a m)) (windows_from a (m + window_size a m) w) []

-- how many windows n records have
abbrev pub window_count : ℕ → ℕ
window_count n = (n + 1023) / 1024

unfoldable pub printed : Areas → List ℕ
printed a = names ++ windows_from a 0 (window_count (count a))

-- ---- in a buffer of so many bytes; where it may not fit there is no text

unfoldable pub listing_text : Areas → ℕ → List ℕ
listing_text a room = cond (leb (53 + 126 * count a) room) (printed a) []

-- after a call: the line of its refusal alone, or what is printed of the areas that it left
unfoldable pub shown : Outcome → ℕ → List ℕ
shown o room = unless_refused o.answer.number (listing_text o.areas room) (refused_text o.answer.number room)
