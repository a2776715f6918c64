-- `loc_whole::totals::totals` meets its contract.
use Prim.Native.Nat.{◌+◌, ◌-◌, ◌*◌}
use mathlib.Core.Path.{refl}
use native.Mathlib.Omega.{arith}
use borrow.Author.Rules.{rules}
use Rattle.loc_whole.proofs.TotalLaws.{totals_ask, totals_are}
use Rattle.loc_whole.proofs.totals.totals.Goals as goal

pub window_sums-requires : goal.window_sums-requires
window_sums-requires c =
    totals_ask c.args.a.slots.now c.args.a.rows.now _ _ _ _ c.requires (16 + 2 * c.args.base + 2 * c.args.m - (16 + 2 * c.args.base)) (omega arith) _ _ _ _ refl (search rules) (search rules)

pub returns : goal.returns
returns c = λ k.
    totals_are c.args.a.slots.now c.args.a.rows.now _ _ _ _ c.requires (16 + 2 * c.args.base + 2 * c.args.m - (16 + 2 * c.args.base)) (omega arith) _ _ k _ _ _ _ refl c.from.ensures c.window_sums.ensures
