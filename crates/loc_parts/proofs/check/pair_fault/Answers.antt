-- `loc_parts::check::pair_fault` meets its contract.
use Rattle.std.proofs.Common.{◌∙◌, arith, rules}
use Rattle.loc_parts.proofs.FaultLaws.{fault_raised, fault_strange, fault_order, tuple_before}
use Rattle.loc_parts.proofs.check.pair_fault.Goals as goal

pub returns-then-c-p : goal.returns-then-c-p
returns-then-c-p c = search (rules, fault_raised)

pub returns-then-p-eq0 : goal.returns-then-p-eq0
returns-then-p-eq0 c = grind (arith, fault_strange)

pub returns-then-lt : goal.returns-then-lt
returns-then-lt c =
    let t = c.lt.ensures ∙ tuple_before c.args.d c.args.q c.args.c c.args.p in
    rw c.if-lt.true at (fault_order _ _ _ _ _ c.if-c-p.false c.if-p-eq0.false c.if-count-c.false _ t)

pub returns-else-lt : goal.returns-else-lt
returns-else-lt c =
    let t = c.lt.ensures ∙ tuple_before c.args.d c.args.q c.args.c c.args.p in
    rw c.if-lt.false at (fault_order _ _ _ _ _ c.if-c-p.false c.if-p-eq0.false c.if-count-c.false _ t)
