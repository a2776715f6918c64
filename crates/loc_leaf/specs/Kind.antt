-- The two kinds of index, their widths, and windows (document 01, "delta_loc.rs, leaf part").
-- Kind and Value are the code's own types: a Value is what a slot or row says of a record, its strides and span count (0 where single).
use Rattle.std.specs.Prelude.{ℕ, ◌-◌, ◌/◌, ◌%◌}
use Rattle.loc_leaf.specs.declared.Kind.{Kind}
use Rattle.loc_leaf.specs.declared.Kind.TheVariants.{Paired, Single}

-- row: number (8 bytes), strides (4), span count (4) where paired
abbrev pub row_width : Kind → ℕ
row_width Paired = 16
row_width Single = 12

-- a paired checkpoint is 16 bytes, a single one 8
abbrev pub checkpoint_width : Kind → ℕ
checkpoint_width Paired = 16
checkpoint_width Single = 8

-- record id lies in window (id − 1) div 1,024
abbrev pub window_of : ℕ → ℕ
window_of id = (id - 1) / 1024

-- and is the window's record
abbrev pub within_window : ℕ → ℕ
within_window id = (id - 1) % 1024
