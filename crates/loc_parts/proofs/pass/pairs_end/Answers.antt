-- `loc_parts::pass::pairs_end` meets its contract.
use Rattle.std.proofs.Common.{arith, rules}
use Rattle.loc_parts.proofs.PairLaws.{to_most, end_some, end_found, end_lacking}
use Rattle.loc_parts.proofs.pass.pairs_end.Goals as goal

pub overflow_sub-r : goal.overflow_sub-r
overflow_sub-r c = search (rules, end_some)

pub offset_bounds-composites-r : goal.offset_bounds-composites-r
offset_bounds-composites-r c =
    let some = end_some _ _ _ c.requires.0 c.requires.1 _ c.composites_to-r.ensures c.if-end-eq0.false c.if-y-composites.false in
    omega (arith, to_most c.args.composites.now c.args.y c.args.end, c.composites_to-r.ensures, c.requires.1, some)

pub bounds-composites-r : goal.bounds-composites-r
bounds-composites-r c =
    let some = end_some _ _ _ c.requires.0 c.requires.1 _ c.composites_to-r.ensures c.if-end-eq0.false c.if-y-composites.false in
    omega (arith, to_most c.args.composites.now c.args.y c.args.end, c.composites_to-r.ensures, c.requires.1, some)

pub returns-then-composites-r : goal.returns-then-composites-r
returns-then-composites-r c = search (rules, end_found)

pub returns-else-composites-r : goal.returns-else-composites-r
returns-else-composites-r c = search (rules, end_lacking)
