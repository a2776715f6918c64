-- `loc_parts::call::put_with` meets its contract.
use Rattle.std.proofs.Common.{◌∙◌, arith, rules}
use Rattle.loc_leaf.proofs.SliceLaws.{copied_whole}
use Rattle.loc_calls.specs.Parts.{needed}
use Rattle.loc_parts.proofs.PutLaws.{put_short, put_found}
use Rattle.loc_parts.proofs.call.put_with.Goals as goal

pub returns-then-answers-n : goal.returns-then-answers-n
returns-then-answers-n c =
    let n = c.needed_records-n in
    put_short (needed c.args.pairs.composites.now c.args.pairs.components.now c.args.«record») _ c.args.answers.now n.result n.ensures.1 (omega (arith, n.ensures.0, n.auto.list)) (omega arith)

pub returns : goal.returns
returns c =
    let n = c.needed_records-n in
    put_found (needed c.args.pairs.composites.now c.args.pairs.components.now c.args.«record») _ c.args.answers.now n.result n.ensures.1 (omega (arith, n.ensures.0, n.auto.list)) (omega arith) _ (c.copy.ensures ∙ copied_whole _ _ (search rules))
