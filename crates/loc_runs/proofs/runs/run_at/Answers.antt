-- `loc_runs::runs::run_at` meets its contract.
use Rattle.std.proofs.Common.{ap, ◌∙◌, arith, rules}
use Rattle.loc_leaf.specs.Kind.{window_of}
use Rattle.loc_runs.proofs.RunLaws.{key_there, key_some, key_counted, run_next}
use Rattle.loc_runs.proofs.runs.run_at.Goals as goal

pub wanted_by-id-requires : goal.wanted_by-id-requires
wanted_by-id-requires c = search (rules, key_there)

pub mark_block-m-requires : goal.mark_block-m-requires
mark_block-m-requires c = search (rules, key_some, key_counted)

pub wanted_by-next-requires : goal.wanted_by-next-requires
wanted_by-next-requires c = search (rules, key_there)

pub mark_block-m-requires-in-loop-end : goal.mark_block-m-requires-in-loop-end
mark_block-m-requires-in-loop-end c = search (rules, key_some, key_counted)

pub loop-end-preserved : goal.loop-end-preserved
loop-end-preserved c =
    run_next c.args.kind c.args.count c.args.wanted.now c.args.keys.now c.args.from c.args.stamp c.loop-end.mark _ (omega arith) c.wanted_by-next.result c.loc_window-w.result c.loop-end.m c.mark_block-m-in-loop-end.result c.loop-end.end c.loop-end.invariant c.loop-end-test.true c.wanted_by-next.ensures (c.loc_window-w.ensures ∙ ap window_of c.wanted_by-id.ensures) (search rules) c.mark_block-m-in-loop-end.ensures.0 c.mark_block-m-in-loop-end.ensures.1
