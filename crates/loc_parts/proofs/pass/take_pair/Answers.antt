-- `loc_parts::pass::take_pair` meets its contract.
-- A law for each way: the component has its mark, is put on the stage, or stands in the table.
use native.Mathlib.Omega.{arith}
use lib.ListN.{length-set}
use Rattle.loc_parts.proofs.WalkLaws.{walking_more, walking_marked, walking_again, stage_more}
use Rattle.loc_parts.proofs.pass.take_pair.Goals as goal

pub returns-then-mark_last : goal.returns-then-mark_last
returns-then-mark_last c = (
  omega (arith, c.requires.5),
  c.requires.6,
  λ x w. walking_marked _ _ x _ _ _ _ w c.requires.0 c.requires.3 _ c.mark_last.ensures _ _ c.enter.ensures c.mark_last-then-enter.ensures c.if-mark_last.true,
)

pub returns-then-enter : goal.returns-then-enter
returns-then-enter c = (
  omega (arith, c.requires.5),
  simp length-set (omega (arith, c.requires.6)),
  λ x w. stage_more _ _ x _ _ c.args.stage.now c.args.s _ _ (omega (arith, c.requires.5)) c.requires.6 (walking_more _ _ x _ _ _ _ w c.requires.0 c.requires.3 _ c.mark_last.ensures _ _ c.enter.ensures c.mark_last-then-enter.ensures),
)

pub returns : goal.returns
returns c = (
  omega (arith, c.requires.5),
  c.requires.6,
  λ x w. walking_again _ _ x _ _ _ _ w c.requires.0 c.requires.3 _ c.mark_last.ensures _ c.enter.ensures c.if-enter.false,
)
