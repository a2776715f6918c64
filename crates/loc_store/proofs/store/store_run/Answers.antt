-- `loc_store::store::store_run` meets its contract.
-- What each area has become is known by the test before its store.
use borrow.Author.Rules.{rules}
use Rattle.loc_store.proofs.StoreLaws.{OnePlaced, TwoPlaced, placed_in, placed_out, run_lengths}
use Rattle.loc_store.proofs.store.store_run.Goals as goal
use Rattle.loc_store.proofs.store.store_run.Goals.{then-places-gt0, else-places-gt0, then-places-gt1, else-places-gt1}

pub returns-then-places-gt2 : goal.returns-then-places-gt2
returns-then-places-gt2 c =
    let one : OnePlaced c.args.old c.args.new c.args.places c.args.areas.now c.if-places-gt0.areas =
    elim c.if-places-gt0.branch [ then-places-gt0 w ↦ search (rules, placed_in) | else-places-gt0 w ↦ search (rules, placed_out) ] in
    let two : TwoPlaced c.args.old c.args.new c.args.places c.args.areas.now c.if-places-gt1.areas =
    elim c.if-places-gt1.branch [ then-places-gt1 w ↦ search (rules, placed_in) | else-places-gt1 w ↦ search (rules, placed_out) ] in
    search (rules, placed_in, run_lengths)

pub returns-else-places-gt2 : goal.returns-else-places-gt2
returns-else-places-gt2 c =
    let one : OnePlaced c.args.old c.args.new c.args.places c.args.areas.now c.if-places-gt0.areas =
    elim c.if-places-gt0.branch [ then-places-gt0 w ↦ search (rules, placed_in) | else-places-gt0 w ↦ search (rules, placed_out) ] in
    let two : TwoPlaced c.args.old c.args.new c.args.places c.args.areas.now c.if-places-gt1.areas =
    elim c.if-places-gt1.branch [ then-places-gt1 w ↦ search (rules, placed_in) | else-places-gt1 w ↦ search (rules, placed_out) ] in
    search (rules, placed_out, run_lengths)
