-- When an index is sound (document 01, "Audit"; document 02, Item 7).
-- The sums are plain: they do not saturate.
use Rattle.std.specs.Prelude.{ℕ, ◌+◌, ◌*◌, ◌^◌, Bool, true, cond, ◌&&◌, List, [], ◌∷◌, leb, ltb, eqb}
use Rattle.loc_leaf.specs.declared.Kind.{Kind}
use Rattle.loc_leaf.specs.declared.Kind.TheVariants.{Paired, Single}
use Rattle.loc_leaf.specs.declared.Value.{Value}
use Rattle.loc_leaf.specs.Bytes.{Bytes, byte}
use Rattle.loc_leaf.specs.Area.{fill}
use Rattle.loc_leaf.specs.Kind.{checkpoint_width}
use Rattle.loc_leaf.specs.Slot.{needs_row, slot_at}
use Rattle.loc_leaf.specs.Rows.{row_number, row_value, row_list}
use Rattle.loc_calls.specs.Areas.{Areas, count}
use Rattle.loc_calls.specs.Reading.{all_after, complete, strides_after, spans_after, window_end, within}

-- ---- sums and checkpoints

-- the plain sums of the lengths of the first n records, from 16 on
unfoldable pub body_end_after : Kind → Areas → ℕ → ℕ
body_end_after k a n = 16 + 8 * strides_after k a 0 n

unfoldable pub span_end_after : Kind → Areas → ℕ → ℕ
span_end_after k a n = 16 + 8 * spans_after k a 0 n

-- a test of body and span where paired, of the body where single
abbrev pub both_ends : Kind → Bool → Bool → Bool
both_ends Paired body span = body && span
both_ends Single body span = body

-- checkpoint w stands after a record 1,024 × w within the count and is the plain sum of the lengths from 16 on
unfoldable pub checkpoint_sound : Kind → Areas → ℕ → Bool
checkpoint_sound k a w =
    leb (1024 * w) (count a)
    && both_ends k (eqb (window_end k a 0 w) (body_end_after k a (1024 * w))) (eqb (window_end k a 8 w) (span_end_after k a (1024 * w)))

-- ---- published rows

-- a non-zero byte equals the row's value, and a zero byte has a value of 256 or more
abbrev pub byte_fits : ℕ → ℕ → Bool
byte_fits b v = cond (eqb b 0) (leb 256 v) (eqb b v)

-- paired: each byte fits, unlike the cut rule, which asks for some zero byte of 256 or more; single: 65,536 strides or more
unfoldable pub row_fits : Kind → Bytes → Value → Bool
row_fits Paired s v = byte_fits (byte 0 s) v.strides && byte_fits (byte 1 s) v.spans
row_fits Single s v = leb 65536 v.strides

-- a slot needs a row, and the row's value fits it
unfoldable pub row_wanted : Kind → Bytes → Value → Bool
row_wanted k s v = needs_row k s && row_fits k s v

-- a row belongs to a slot within the count that needs a row, and fits it
unfoldable pub row_sound : Kind → Areas → Bytes → Bool
row_sound k a r = within (count a) (row_number r) && row_wanted k (slot_at a.slots (row_number r)) (row_value k r)

unfoldable pub rows_sound : Kind → Areas → List Bytes → Bool
rows_sound k a [] = true
rows_sound k a (r ∷ rs) = row_sound k a r && rows_sound k a rs

-- ---- the index

-- every slot that needs a row has one, every checkpoint is sound, both ends (the one end, where single) stay below 2^64,
-- and every published row is sound
unfoldable pub sound : Kind → Areas → Bool
sound k a =
    complete k a 0 (count a)
    && all_after (checkpoint_sound k a) 0 (fill (checkpoint_width k) a.checkpoints)
    && both_ends k (ltb (body_end_after k a (count a)) (2 ^ 64)) (ltb (span_end_after k a (count a)) (2 ^ 64))
    && rows_sound k a (row_list k a.rows)
