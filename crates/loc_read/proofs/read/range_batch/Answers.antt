-- `loc_read::read::range_batch` meets its contract.
-- A law for each way through the tests.
use Rattle.std.proofs.Common.{arith}
use Rattle.std.proofs.lemmas.Result.{err_from_is_err_and}
use Rattle.loc_read.proofs.ReadLaws.{read_first, read_15, read_16, read_tested}
use Rattle.loc_read.proofs.read.range_batch.Goals as goal

pub returns-in_err-found : goal.returns-in_err-found
returns-in_err-found c =
    let e = err_from_is_err_and c.from_residual.result c.from_residual.ensures.1 in
    rw (e.1, e.2) (read_first _ _ c.args.wanted.now c.args.answers.now _ c.in_err-found.ensures.number)

pub returns-then-wanted-gt1024 : goal.returns-then-wanted-gt1024
returns-then-wanted-gt1024 c = read_15 _ _ c.args.wanted.now c.args.answers.now c.in_ok-found.ensures.number c.if-wanted-gt1024.true

pub returns-then-answers-word_width : goal.returns-then-answers-word_width
returns-then-answers-word_width c =
    read_16 _ _ c.args.wanted.now c.args.answers.now c.in_ok-found.ensures.number _ c.word_width.ensures.0 c.if-wanted-gt1024.false c.if-answers-word_width.true

pub read_tested-requires : goal.read_tested-requires
read_tested-requires c =
    read_tested _ _ c.args.wanted.now c.args.answers.now c.in_ok-found.ensures.number _ c.word_width.ensures.0 c.if-wanted-gt1024.false _ c.in_ok-found.ensures.found c.if-answers-word_width.false (omega (arith, c.ranges.a))
