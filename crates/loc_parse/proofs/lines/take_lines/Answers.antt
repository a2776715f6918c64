-- `loc_parse::lines::take_lines` meets its contract.
-- A line more is a record more in the first places of the lists.
use Prim.Native.Nat.{◌+◌, ◌-◌}
use mathlib.Core.Path.{◌≡◌, refl, sym, ◌∙◌}
use native.Mathlib.Nat.{add-zero}
use native.Mathlib.Omega.{arith}
use lib.ListN.{length-set}
use Rattle.loc_leaf.proofs.Refusals.{number_some}
use Rattle.loc_parse.proofs.ListLaws.{lines_end, lines_over, lines_broken, lines_refused, lines_more, one_more}
use Rattle.loc_parse.proofs.lines.take_lines.Goals as goal

pub loop-records-init : goal.loop-records-init
loop-records-init c = (rw add-zero refl, c.requires.1)

pub returns-then-text-at : goal.returns-then-text-at
returns-then-text-at c = record { same = sym (c.loop-records.invariant.0 ∙ lines_end _ _ _ _ _ c.if-text-at.true); few = omega arith }

pub returns-in_default : goal.returns-in_default
returns-in_default c =
    let e : 1024 - c.loop-records.records ≡ (1024 - (c.loop-records.records + 1)) + 1 = omega arith in
    record { same = sym (c.loop-records.invariant.0 ∙ lines_broken _ _ _ _ c.if-text-at.false _ _ e (grind arith)); few = omega arith }

pub returns-in-Err : goal.returns-in-Err
returns-in-Err c =
    let e : 1024 - c.loop-records.records ≡ (1024 - (c.loop-records.records + 1)) + 1 = omega arith in
    record {
      same = sym (c.loop-records.invariant.0 ∙ lines_refused _ _ _ _ c.if-text-at.false _ _ e c.in-Some.f c.in-Some.next (grind arith) _ (grind arith) (number_some _));
      few = omega arith;
    }

pub loop-records-preserved : goal.loop-records-preserved
loop-records-preserved c =
    let e : 1024 - c.loop-records.records ≡ (1024 - (c.loop-records.records + 1)) + 1 = omega arith in
    let place : c.args.first + c.loop-records.records + 1 ≡ c.args.first + (c.loop-records.records + 1) = omega arith in
    let l = c.loop-records in
    let r = c.loop-records.invariant.1 in (
      c.loop-records.invariant.0
          ∙ lines_more _ _ _ _ c.if-text-at.false _ _ e c.in-Some.f c.in-Some.next (grind arith) (grind arith)
          ∙ rw (place, one_more l.records l.starts l.lens l.span_starts l.span_counts c.in-Some.f (omega (arith, r.starts)) (omega (arith, r.lens)) (omega (arith, r.span_starts)) (omega (arith, r.span_counts))) refl,
      record { starts = simp length-set r.starts; lens = simp length-set r.lens; span_starts = simp length-set r.span_starts; span_counts = simp length-set r.span_counts },
    )

pub returns-then-at-text : goal.returns-then-at-text
returns-then-at-text c =
    let n : c.loop-records.records ≡ 1024 = omega arith in
    record { same = sym (rw n at c.loop-records.invariant.0 ∙ lines_over _ _ _ _ c.if-at-text.true); few = omega arith }

pub returns : goal.returns
returns c =
    let n : c.loop-records.records ≡ 1024 = omega arith in
    record { same = sym (rw n at c.loop-records.invariant.0 ∙ lines_end _ _ _ _ _ c.if-at-text.false); few = omega arith }
