-- What the m records that follow record f add up to, and how many of them lack their row.
-- Of an inner crate: nr counts the rows, and bytes are the slots of the records.
use Rattle.std.specs.Prelude.{ℕ, suc, ◌+◌, ◌*◌, ◌^◌, ◌≤◌, ◌<◌, ◌≡◌, true, false, length, drop, Option, Some, None}
use Rattle.loc_leaf.specs.declared.Kind.{Kind}
use Rattle.loc_leaf.specs.declared.Value.{Value}
use Rattle.loc_leaf.specs.Bytes.{Bytes}
use Rattle.loc_leaf.specs.Slot.{inline}
use Rattle.loc_leaf.specs.Rows.{row_list, slot_value}
use Rattle.loc_calls.specs.Areas.{Areas}
use Rattle.loc_calls.specs.Reading.{complete, strides_after, spans_after}
use Rattle.loc_leaf.specs.Block.{slot_bytes, sum_from}
use Rattle.loc_window.specs.Window.{Rising}
use Rattle.loc_total.specs.declared.Part.{Part}
use Rattle.loc_total.specs.declared.Total.{Total}

-- what is asked of slots and rows
pub record Walkable (k : Kind) (slots rows : Bytes) (nr f m : ℕ) : Type 0 where
  pub few : m ≤ 1024
  pub room : 16 + 2 * (f + m) ≤ length slots
  pub low : 16 + 2 * (f + m) < 2 ^ 64
  pub rise : Rising k rows nr

-- t is what they add up to where none lacks its row, and says whether one does
pub record Totalled (k : Kind) (a : Areas) (f m : ℕ) (t : Total) : Type 0 where
  pub known : t.lacking ≡ 0 → complete k a f m ≡ true
  pub lacks : (t.lacking ≡ 0 → ⊥) → complete k a f m ≡ false
  pub is_strides : t.lacking ≡ 0 → t.strides ≡ strides_after k a f m
  pub is_spans : t.lacking ≡ 0 → t.spans ≡ spans_after k a f m
  pub strides_low : t.strides ≤ m * 2 ^ 33
  pub spans_low : t.spans ≤ m * 2 ^ 33

-- ---- some of the rows

-- what slot i, counted from 0, and the rows from a place on say of its record
unfoldable pub lookup_from : Kind → ℕ → Bytes → Bytes → ℕ → ℕ → Option Value
lookup_from k f bytes rows place i = slot_value k (drop place (row_list k rows)) (f + suc i) (slot_bytes bytes i)

-- the slot's bytes stand in for a row that is missing
unfoldable pub value_or : Value → Option Value → Value
value_or v (Some u) = u
value_or v None = v

unfoldable pub lack : Option Value → ℕ
lack (Some u) = 0
lack None = 1

-- record i's value and whether it lacks its row, by the rows from a place on
abbrev pub value_from : Kind → ℕ → Bytes → Bytes → ℕ → ℕ → Value
value_from k f bytes rows place i = value_or (inline k (slot_bytes bytes i)) (lookup_from k f bytes rows place i)

abbrev pub lack_from : Kind → ℕ → Bytes → Bytes → ℕ → ℕ → ℕ
lack_from k f bytes rows place i = lack (lookup_from k f bytes rows place i)

-- t adds these up; a row that is still to come adds no more than 2 ^ 32
pub record WithRows (k : Kind) (f : ℕ) (bytes rows : Bytes) (m place : ℕ) (t : Total) : Type 0 where
  pub is_strides : t.strides ≡ sum_from (λ i. (value_from k f bytes rows place i).strides) 0 m
  pub is_spans : t.spans ≡ sum_from (λ i. (value_from k f bytes rows place i).spans) 0 m
  pub is_lacking : t.lacking ≡ sum_from (lack_from k f bytes rows place) 0 m
  pub strides_low : t.strides + t.lacking * 2 ^ 32 ≤ m * 2 ^ 33
  pub spans_low : t.spans + t.lacking * 2 ^ 32 ≤ m * 2 ^ 33

-- what a walk over the rows asks
pub record RowsReady (k : Kind) (f : ℕ) (bytes rows : Bytes) (nr m : ℕ) : Type 0 where
  pub few : m ≤ 1024
  pub long : 2 * m ≤ length bytes
  pub rise : Rising k rows nr

-- ---- the same of a part, as the code is lent it

abbrev pub PartReady : Part → Type 0
PartReady p = RowsReady p.kind p.base p.bytes.now p.rows.now p.row_count p.m

abbrev pub PartSums : Part → ℕ → Total → Type 0
PartSums p place t = WithRows p.kind p.base p.bytes.now p.rows.now p.m place t
