-- `loc_window::checkpoint::window_end` meets its contract.
use borrow.Author.Rules.{rules}
use Rattle.loc_window.proofs.CheckpointLaws.{end_zero, end_some}
use Rattle.loc_window.proofs.checkpoint.window_end.Goals as goal

pub returns-then-w-eq0 : goal.returns-then-w-eq0
returns-then-w-eq0 c = (λ s t h. search (rules, end_zero))

pub returns : goal.returns
returns c = λ s t h. end_some c.args.kind s t c.args.checkpoints.now c.args.at c.args.w c.checkpoint_width-width.result _ c.if-w-eq0.false c.checkpoint_width-width.ensures.0 c.u64_at.ensures h
