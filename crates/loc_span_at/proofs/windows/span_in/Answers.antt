-- `loc_span_at::windows::span_in` meets its contract.
-- The invariant: the quarters before q are passed, and this is the crossing in them.
use Prim.Native.Nat.{◌*◌, ◌/◌}
use mathlib.Core.Path.{◌≡◌, refl}
use native.Mathlib.Omega.{arith}
use borrow.Author.Rules.{rules}
use Rattle.loc_span_at.proofs.CallLaws.{finding_begins, finding_ends, finding_asks, finding_found, finding_lacks, finding_low, finding_quarter, finding_next, refused_17, answered}
use Rattle.loc_span_at.proofs.windows.span_in.Goals as goal

pub loop-q-init : goal.loop-q-init
loop-q-init c = finding_begins _ _ _ c.requires (search rules) _ refl

pub totals-requires : goal.totals-requires
totals-requires c = finding_asks _ _ _ c.requires (search rules) _ _ _ _ c.loop-q.invariant (omega (arith, c.loop-q-test.true)) _ c.quarter_rest-m.ensures

pub first_crossing-found-requires : goal.first_crossing-found-requires
first_crossing-found-requires c =
    let e : 256 * c.loop-q.q / 256 ≡ c.loop-q.q = omega arith in
    rw e (record {
      quarter = (finding_quarter _ _ _ c.requires (search rules) _ _ _ _ c.loop-q.invariant (omega (arith, c.loop-q-test.true)) _ c.quarter_rest-m.ensures _ _ (c.totals.ensures _) _ c.in-Some.is, refl);
      found_value = finding_found _ _ _ c.requires (search rules) _ _ _ _ c.loop-q.invariant (omega (arith, c.loop-q-test.true)) _ c.quarter_rest-m.ensures;
    })

pub next_before-before-requires : goal.next_before-before-requires
next_before-before-requires c = finding_low _ _ _ c.requires (search rules) _ _ _ _ c.loop-q.invariant (omega (arith, c.loop-q-test.true)) _ c.quarter_rest-m.ensures _ _ (c.totals.ensures _) _ c.in-Some.is

pub loop-q-preserved : goal.loop-q-preserved
loop-q-preserved c =
    let e : 256 * c.loop-q.q / 256 ≡ c.loop-q.q = omega arith in
    let found = rw e at c.first_crossing-found.ensures in
    finding_next _ _ _ c.requires (search rules) _ _ _ _ c.loop-q.invariant (omega (arith, c.loop-q-test.true)) _ c.quarter_rest-m.ensures _ _ (c.totals.ensures _) _ c.in-Some.is _ _ found c.next_before-before.ensures

pub returns-in_default : goal.returns-in_default
returns-in_default c = refused_17 _ _ c.requires.number (finding_lacks _ _ _ c.requires (search rules) _ _ _ _ c.loop-q.invariant (omega (arith, c.loop-q-test.true)) _ c.quarter_rest-m.ensures _ _ (c.totals.ensures _) c.in_default.is)

pub returns : goal.returns
returns c = answered _ _ c.requires.number _ (finding_ends _ _ _ c.requires (search rules) _ _ _ _ c.loop-q.invariant (omega (arith, c.loop-q-test.false)))
