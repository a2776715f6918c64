-- What a reading knows once 1, 6, 15 and 16 are tested.
-- 17 is left to the walk.
use Rattle.std.specs.Prelude.{ℕ, ◌*◌, ◌≤◌, ◌≡◌, List, length}
use Rattle.loc_leaf.specs.declared.Kind.{Kind}
use Rattle.loc_calls.specs.Areas.{Areas}
use Rattle.loc_calls.specs.Table.{word_width}
use Rattle.loc_calls.specs.Calls.{first_refusal}
use Rattle.loc_store.specs.declared.Checked.{Checked}
use Rattle.loc_read.specs.Walk.{Readable}

-- of areas of which o is found
pub record Tested (k : Kind) (a : Areas) (o : Checked) (ids out : List ℕ) : Type 0 where
  pub opened : 0 ≡ first_refusal k a
  pub readable : Readable k a o.count o.row_count
  pub few : length ids ≤ 1024
  pub room : word_width k * length ids ≤ length out
