-- `loc_window::blocks::plain` meets its contract.
-- The invariant: the blocks so far are plain, and their bytes are in the sums.
use Rattle.loc_window.proofs.BlocksLaws.{plain_begin, plain_next}
use Rattle.loc_window.proofs.blocks.plain.Goals as goal

pub loop-b-init : goal.loop-b-init
loop-b-init g c = plain_begin _ _ _ _ _ _ c.requires.0

pub loop-b-preserved : goal.loop-b-preserved
loop-b-preserved g c =
    plain_next _ _ _ _ _ _ _ _ _ _ _ _ _ _ c.word_at-lo.ensures c.word_at-hi.ensures c.loop-b.invariant c.loop-b-test.true c.if-w-b.false (c.none_lacking.ensures c.if-not-none_lacking.false) c.block_strides.ensures.0 c.block_spans.ensures.0 c.block_strides.ensures.1 c.block_spans.ensures.1
