-- A load goes through face_import as it is (document 02, Items 1 and 6): what is printed of its text, read into a fresh index, is that text.
-- `shown` is what face_import prints, `load_text` what face_load prints.
use Rattle.std.specs.Prelude.{ℕ, ◌+◌, ◌*◌, ◌≤◌, ◌≡◌, List}
use Rattle.loc_calls.specs.Areas.{Areas}
use Rattle.loc_calls.specs.Calls.{create}
use Rattle.loc_history.specs.History.{AllSized}
use Rattle.loc_parse.specs.Import.{append_listing}
use Rattle.loc_load.specs.Request.{requested, load_text}
use Rattle.loc_round_trip.specs.Loads.{RoomFor}
use Rattle.loc_print.specs.Printed.{shown}

-- for every input that face_load accepts, areas with room for its records, and buffers with room for its text
unfoldable pub Piped : Type 0
Piped =
    (xs : List ℕ) → (requested xs).number ≡ 0
    → (b : Areas) → AllSized b → RoomFor (requested xs).records b
    → (first second : ℕ) → 53 + 126 * (requested xs).records ≤ first → 53 + 126 * (requested xs).records ≤ second
    → shown (append_listing 4 (load_text (requested xs) first) (create b).areas) second ≡ load_text (requested xs) first
