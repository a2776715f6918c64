-- The cut rule on one row (document 01, `cut_for_ovf_row`).
-- Which row it is, just past the published ones, is said where the areas are.
use Rattle.std.specs.Prelude.{ℕ, ◌-◌, Bool, cond, ◌&&◌, ◌||◌, leb, ltb, eqb}
use Rattle.loc_leaf.specs.declared.Kind.{Kind}
use Rattle.loc_leaf.specs.declared.Kind.TheVariants.{Paired, Single}
use Rattle.loc_leaf.specs.declared.Value.{Value}
use Rattle.loc_leaf.specs.Bytes.{Bytes, byte}
use Rattle.loc_leaf.specs.Slot.{needs_row, slot_at}
use Rattle.loc_leaf.specs.Rows.{row_number, row_value}

-- a non-zero slot byte must equal the row's value
abbrev pub agrees : ℕ → ℕ → Bool
agrees b v = eqb b 0 || eqb b v

-- a zero byte with a value of 256 or more
abbrev pub overflows : ℕ → ℕ → Bool
overflows b v = eqb b 0 && leb 256 v

-- paired: both bytes agree, and some zero byte overflows; single: slot 0 and 65,536 or more
unfoldable pub matches : Kind → Bytes → Value → Bool
matches Paired s v =
    agrees (byte 0 s) v.strides && agrees (byte 1 s) v.spans && (overflows (byte 0 s) v.strides || overflows (byte 1 s) v.spans)
matches Single s v = needs_row Single s && leb 65536 v.strides

-- number 0, at or below the last published row's, or above the count: no cut
unfoldable pub cuts : Kind → Bytes → ℕ → ℕ → Bytes → Bool
cuts k slots n last r =
    ltb last (row_number r) && leb (row_number r) n && matches k (slot_at slots (row_number r)) (row_value k r)

-- a match cuts to number − 1
unfoldable pub cut_for : Kind → Bytes → ℕ → ℕ → Bytes → ℕ
cut_for k slots n last r = cond (cuts k slots n last r) (row_number r - 1) n
