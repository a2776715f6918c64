-- One record of the pass computed: inline, by its row, without it, with one that is not wanted, at 2^64, and at a checkpoint; and the reader's place after it.
-- One proposition conjoins them.
use Prim.Native.Nat.{ℕ, ◌-◌, ◌^◌}
use mathlib.Core.Path.{◌≡◌, refl}
use mathlib.Core.Bool.{true, false}
use mathlib.Core.List.{[], ◌∷◌, ◌++◌}
use Rattle.std.specs.Prelude.{Option, Some, None}
use lib.ListN.{replicate}
use Rattle.loc_leaf.specs.declared.Kind.TheVariants.{Paired, Single}
use Rattle.loc_leaf.specs.Bytes.{Bytes, number, bytes, number_at}
use Rattle.loc_leaf.specs.Slot.{needs_row, inline, slot_at}
use Rattle.loc_leaf.specs.Rows.{row, row_number}
use Rattle.loc_calls.specs.Reading.{checkpoint_at}
use Rattle.loc_calls.specs.Audit.{row_fits, row_wanted}
use Rattle.loc_rows.specs.declared.Row.{Row}
use Rattle.loc_rows.specs.Reader.{fields, row_at}
use Rattle.loc_audit.specs.declared.Ends.{Ends}
use Rattle.loc_audit.specs.Pass.{own_value, place_after, slot_says, end_after, added, valued, record_step, checkpoint_is, checkpoint_holds, tested, ends_after}

-- document 01's listing: body lengths 40 and 2,048 with 3 and 1 spans; the second record has a row
abbrev slots : Bytes
slots = replicate 16 7 ++ (5 ∷ 3 ∷ 0 ∷ 1 ∷ [])

abbrev rows : Bytes
rows = replicate 16 7 ++ row Paired 2 (record { strides = 256; spans = 1 })

-- a row as it is read
abbrev read : ℕ → ℕ → ℕ → Option Row
read number strides spans = Some (record { number = number; strides = strides; spans = spans })

abbrev second : Option Row
second = read 2 256 1

abbrev ends : ℕ → ℕ → Ends
ends body span = record { body = body; span = span }

-- the first checkpoint of either kind says the ends 40,976 and 24,592
abbrev checkpoints : Bytes
checkpoints = replicate 16 7 ++ (bytes 8 40976 ++ bytes 8 24592)

-- the paired record id after these ends, the reader at this row
abbrev of_paired : Bytes → ℕ → Option Row → Ends → Option Ends
of_paired s id r e = ends_after Paired s [] id (own_value r id) e

-- record 2 with the slot 256 × y, the reader at this row
abbrev of_single : ℕ → Option Row → Option Ends
of_single y r = ends_after Single (replicate 18 7 ++ (0 ∷ y ∷ [])) [] 2 (own_value r 2) (ends 16 16)

pub record Computed : Type 0 where
  begins : row_at 16 rows 16 ≡ second
  inlined : of_paired slots 1 second (ends 16 16) ≡ Some (ends 56 40)
  stays : place_after 16 second 1 16 ≡ 16
  by_row : of_paired slots 2 second (ends 56 40) ≡ Some (ends 2104 48)
  moves : place_after 16 second 2 16 ≡ 32
  -- the reader stands behind the row, or the row is another's
  without : of_paired slots 2 None (ends 56 40) ≡ None
  another : of_paired (replicate 16 7 ++ (0 ∷ 1 ∷ [])) 1 second (ends 16 16) ≡ None
  -- a row that fits; one that does not, one of an inline slot, and a later record's
  fit : of_single 0 (read 2 65536 0) ≡ Some (ends 524304 16)
  unfit : of_single 0 (read 2 65535 0) ≡ None
  unwanted : of_single 1 (read 2 65536 0) ≡ None
  later : of_single 1 (read 3 65536 0) ≡ Some (ends 2064 16)
  -- sums below 2^64, and past it
  below : end_after (2 ^ 64 - 9) 1 ≡ Some (2 ^ 64 - 1)
  past : end_after (2 ^ 64 - 8) 1 ≡ None
  -- a checkpoint after record 1,024 and none after 1,023
  holds : checkpoint_holds Paired checkpoints 1024 (ends 40976 24592) ≡ true
  span_differs : checkpoint_holds Paired checkpoints 1024 (ends 40976 24584) ≡ false
  holds_single : checkpoint_holds Single checkpoints 1024 (ends 40976 16) ≡ true
  differs_single : checkpoint_holds Single checkpoints 1024 (ends 40968 16) ≡ false
  none : checkpoint_holds Paired checkpoints 1023 (ends 16 16) ≡ true

pub computed : Computed
unfolding number bytes number_at needs_row inline slot_at row row_number checkpoint_at row_fits row_wanted fields row_at own_value place_after slot_says end_after added valued record_step checkpoint_is checkpoint_holds tested ends_after
computed = record {
  begins = refl;
  inlined = refl;
  stays = refl;
  by_row = refl;
  moves = refl;
  without = refl;
  another = refl;
  fit = refl;
  unfit = refl;
  unwanted = refl;
  later = refl;
  below = refl;
  past = refl;
  holds = refl;
  span_differs = refl;
  holds_single = refl;
  differs_single = refl;
  none = refl;
}
