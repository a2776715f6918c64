-- `loc_parts::pass::composites_to` meets its contract.
-- The invariant of both loops: how many there are is at most as many places further on as are left.
use Rattle.std.proofs.Common.{◌≡◌, ◌+◌, ◌-◌, arith}
use Rattle.loc_parts.proofs.PairLaws.{to_most, turn_quarters, turn_one}
use Rattle.loc_parts.proofs.pass.composites_to.Goals as goal

pub loop-left-init : goal.loop-left-init
loop-left-init c =
    let a = c.args in
    (record { low = omega arith; high = omega (arith, to_most a.composites.now a.y a.end) }, omega arith)

pub loop-left-preserved : goal.loop-left-preserved
loop-left-preserved c =
    let l = c.loop-left in
    let t = turn_quarters _ _ c.args.end l.at l.left c.requires.0 c.requires.1 l.invariant.0 l.invariant.1 c.loop-left-test.true _ _ _ c.from-one.ensures c.from-two.ensures c.from-three.ensures in
    (t.1, omega (arith, t.0, l.invariant.1))

pub loop-preserved : goal.loop-preserved
loop-preserved c =
    let l = c.loop in
    let t = turn_one _ _ c.args.end l.at _ c.requires.0 c.requires.1 l.invariant.0 l.invariant.1 (omega (arith, c.loop-test.true)) _ c.from-at.ensures in
    let e : c.loop-left.left - (l.counter + 1) ≡ c.loop-left.left - l.counter - 1 = omega arith in
    rw e (t.0, omega (arith, t.1, l.invariant.1))

pub returns : goal.returns
returns c =
    let l = c.loop in
    omega (arith, l.invariant.0.low, l.invariant.0.high, c.loop-test.false)
