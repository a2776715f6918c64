-- The listing of a paired index, whole: the line of names, then a line for each record (document 01, "Listing program").
-- The numbers of a line are those that a reading gives; or they are those of a list of records with their places.
use Rattle.std.specs.Prelude.{ℕ, zero, suc, ◌+◌, ◌*◌, List, [], ◌∷◌, ◌++◌, drop}
use Rattle.loc_leaf.specs.declared.Kind.TheVariants.{Paired}
use Rattle.loc_calls.specs.Areas.{Areas, count}
use Rattle.loc_calls.specs.Table.{Entry}
use Rattle.loc_calls.specs.Reading.{words_for}
use Rattle.loc_listing.specs.Text.{line, names}

-- record id: its number, then the words of its reading but for the first, which says that it is found
unfoldable pub line_for : Areas → ℕ → List ℕ
line_for a id = line (id ∷ drop 1 (words_for Paired a id))

-- the lines of the n records that follow record m
unfoldable pub lines_after : Areas → ℕ → ℕ → List ℕ
lines_after a m zero = []
lines_after a m (suc n) = lines_after a m n ++ line_for a (m + suc n)

unfoldable pub listing : Areas → List ℕ
listing a = names ++ lines_after a 0 (count a)

-- ---- of a list

unfoldable pub entry_line : ℕ → Entry → List ℕ
entry_line id e = line (id ∷ e.start ∷ e.len ∷ e.span_start ∷ 8 * e.spans ∷ e.spans ∷ [])

-- numbered from m + 1
unfoldable pub entry_lines : ℕ → List Entry → List ℕ
entry_lines m [] = []
entry_lines m (e ∷ es) = entry_line (suc m) e ++ entry_lines (suc m) es
