-- `loc_parts::pass::walk` meets its contract.
-- The invariant is `Walking`, of the components at the end of the stage.
use Rattle.std.proofs.lemmas.Bool.{false≢true}
use Rattle.std.proofs.Common.{sym, ◌∙◌, ◌+◌, ◌-◌, arith}
use Rattle.loc_parts.proofs.WalkLaws.{walking_begins, walking_past, place_is, stage_begins}
use Rattle.loc_parts.proofs.pass.walk.Goals as goal

pub loop-i-init : goal.loop-i-init
loop-i-init c =
    let e = c.pairs_end-end.ensures in (
      omega (arith, e.inside, c.requires.1.for_components),
      omega arith,
      stage_begins _ _ _ _ _ c.args.stage.now _ (walking_begins _ _ _ _ _ _ _ e c.requires.1.unmarked c.mark_last.ensures c.requires.1.empty),
    )

pub take_pair-s-requires : goal.take_pair-s-requires
take_pair-s-requires c =
    let l = c.loop-i in (
      c.requires.0,
      omega (arith, c.loop-i-test.true, l.invariant.2.inside),
      omega (arith, l.auto.marks, c.mark_last.auto.marks, c.requires.1.for_marks),
      c.if-marks-i.true,
      omega (arith, l.auto.seen, c.requires.1.for_table),
      omega (arith, c.loop-i-test.true, l.invariant.0),
      l.invariant.1,
    )

pub loop-i-preserved-then-marks-i : goal.loop-i-preserved-then-marks-i
loop-i-preserved-then-marks-i c =
    let l = c.loop-i in
    let t = c.take_pair-s.ensures in
    (t.0, t.1, t.2 _ (place_is _ _ _ _ _ l.stage l.s l.i (l.i - 1 + 1) (omega (arith, c.loop-i-test.true)) l.invariant.2))

pub loop-i-preserved : goal.loop-i-preserved
loop-i-preserved c =
    let l = c.loop-i in (
      omega (arith, l.invariant.0),
      l.invariant.1,
      walking_past _ _ _ _ _ _ _ (place_is _ _ _ _ _ l.stage l.s l.i (l.i - 1 + 1) (omega (arith, c.loop-i-test.true)) l.invariant.2) (λ t. false≢true (sym c.if-marks-i.false ∙ t)),
    )

pub returns : goal.returns
returns c =
    let l = c.loop-i in
    (l.invariant.1, place_is _ _ _ _ _ l.stage l.s l.i 0 (omega arith) l.invariant.2)
