-- `loc_total::window::window_total` meets its contract.
use Prim.Native.Nat.{◌+◌, ◌-◌, ◌*◌}
use native.Mathlib.Omega.{arith}
use Rattle.loc_total.proofs.TotalLaws.{part_totalled}
use Rattle.loc_total.proofs.window.window_total.Goals as goal

pub returns : goal.returns
returns c = λ k. part_totalled c.args.kind c.args.a.slots.now c.args.a.rows.now k c.args.base c.args.m (16 + 2 * c.args.base + 2 * c.args.m - (16 + 2 * c.args.base)) (omega arith) _ c.part_total.ensures
