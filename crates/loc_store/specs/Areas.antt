-- What the check of a call finds of the areas, and what the first refusal leaves of them.
-- Of an inner crate: its calls are stated by the definitions of loc_calls.
use Rattle.std.specs.Prelude.{ℕ, ◌-◌, ◌*◌, ◌≤◌, ◌≡◌, length, Result, Ok, Err}
use Rattle.loc_leaf.specs.declared.Kind.{Kind}
use Rattle.loc_leaf.specs.Answers.{number_of}
use Rattle.loc_leaf.specs.Area.{counted, fill, InPieces}
use Rattle.loc_leaf.specs.Kind.{row_width, checkpoint_width}
use Rattle.loc_calls.specs.Areas.{Areas}
use Rattle.loc_calls.specs.Calls.{first_refusal}
use Rattle.loc_store.specs.declared.Lengths.{Lengths}
use Rattle.loc_store.specs.declared.Published.{Published}
use Rattle.loc_store.specs.declared.Checked.{Checked}
use Rattle.loc_store.specs.declared.Refused.{Refused}

-- each area has the 16 bytes in which its length stands
pub record HoldHeaders (a : Areas) : Type 0 where
  pub slots_hold : 16 ≤ length a.slots
  pub rows_hold : 16 ≤ length a.rows
  pub checkpoints_hold : 16 ≤ length a.checkpoints

-- what each area publishes, in pieces of its own width
pub record Publishes (k : Kind) (a : Areas) (p : Published) : Type 0 where
  pub slots : InPieces 2 a.slots p.slots
  pub rows : InPieces (row_width k) a.rows p.rows
  pub checkpoints : InPieces (checkpoint_width k) a.checkpoints p.checkpoints

-- these are the counted lengths
pub record EndsOf (a : Areas) (e : Lengths) : Type 0 where
  pub slots : e.slots ≡ counted a.slots
  pub rows : e.rows ≡ counted a.rows
  pub checkpoints : e.checkpoints ≡ counted a.checkpoints

-- what is found of the areas: how many records and rows are published, and up to where
pub record Finds (k : Kind) (a : Areas) (o : Checked) : Type 0 where
  pub count : o.count ≡ fill 2 a.slots
  pub rows : o.row_count ≡ fill (row_width k) a.rows
  pub ends : EndsOf a o.ends
  pub room : 2 * o.count ≤ length a.slots - 16

-- 0 where the check refuses nothing
abbrev pub refused_number : Result Checked Refused → ℕ
refused_number (Ok o) = 0
refused_number (Err r) = number_of r.refusal

abbrev pub found_in : Result Checked Refused → Checked
found_in (Ok o) = o
found_in (Err r) = r.found

-- 1, 6 or 0, and what is found, also of areas that are refused
pub record Checks (k : Kind) (a : Areas) (r : Result Checked Refused) : Type 0 where
  pub number : refused_number r ≡ first_refusal k a
  pub found : Finds k a (found_in r)
