-- `loc_read::read::read_with` meets its contract.
-- The walk answers into the stage, which is copied where it met no slot that lacks its row.
use Rattle.std.proofs.Common.{ℕ, List, ◌*◌, ◌++◌, ◌∙◌, length, drop, ap, rules}
use Rattle.std.proofs.lemmas.Result.{err_from_is_err_and}
use Rattle.loc_leaf.proofs.SliceLaws.{copied_whole}
use Rattle.loc_read.proofs.ReadLaws.{read_17, read_done, words_fit}
use Rattle.loc_read.proofs.read.read_with.Goals as goal

pub returns-in_err-finish_range_batch : goal.returns-in_err-finish_range_batch
returns-in_err-finish_range_batch c =
    let e = err_from_is_err_and c.from_residual.result c.from_residual.ensures.1 in
    rw (e.1, e.2) (read_17 _ _ _ _ _ c.requires.tested _ _ c.in_err-finish_range_batch.ensures)

pub returns : goal.returns
returns c =
    let n = c.word_width.result * length c.args.wanted.now in
    read_done _ _ _ _ _ c.requires.tested _ c.in_ok-finish_range_batch.ensures _ _ _ c.word_width.ensures.0
    (words_fit _ _ _ _ _ c.word_width.ensures.0 c.requires.wanted_in_bounds.2 c.finish_range_batch.auto.out) c.plan_range_batch-n.ensures.0
    (ap (λ (l : List ℕ). l ++ drop n c.args.answers.now) (c.copy.ensures ∙ copied_whole _ _ (search rules)))
