-- `append::append_stores` meets its contract.
-- What each area has become is known by the test before its store.
use borrow.Author.Rules.{rules}
use mathlib.Core.Path.{◌∙◌}
use Rattle.loc_calls.specs.Lent.{lists}
use Rattle.loc_batch.specs.Lists.{batched}
use Rattle.loc_store.proofs.StoreLaws.{placed_in, placed_out}
use Rattle.loc_append.specs.Plans.{RoomPast}
use Rattle.loc_append.proofs.AppendLaws.{Wrote, SlotsPlaced, RowsPlaced, wrote_in, wrote_out, stores_ran}
use Rattle.loc_append.proofs.append.append_stores.Goals as goal
use Rattle.loc_append.proofs.append.append_stores.Goals.{then-s-gt0, else-s-gt0, then-s-gt1, else-s-gt1, then-s-gt2, else-s-gt2}

pub write_bytes-requires-clause-room : goal.write_bytes-requires-clause-room
unfolding RoomPast
write_bytes-requires-clause-room c = c.requires.room_past

pub returns-then-s-gt3 : goal.returns-then-s-gt3
returns-then-s-gt3 c =
    let wrote : Wrote c.args.kind (batched c.args.kind (lists c.args.b)) c.args.t c.args.s c.args.areas.now c.if-s-gt0.areas =
    elim c.if-s-gt0.branch [ then-s-gt0 w ↦ search (rules, wrote_in) | else-s-gt0 w ↦ search (rules, wrote_out) ] in
    let slots : SlotsPlaced c.args.t c.args.s c.if-s-gt0.areas c.if-s-gt1.areas =
    elim c.if-s-gt1.branch [ then-s-gt1 w ↦ search (rules, placed_in) | else-s-gt1 w ↦ search (rules, placed_out) ] in
    let rows : RowsPlaced c.args.t c.args.s c.if-s-gt1.areas c.if-s-gt2.areas =
    elim c.if-s-gt2.branch [ then-s-gt2 w ↦ search (rules, placed_in) | else-s-gt2 w ↦ search (rules, placed_out) ] in
    stores_ran _ _ _ _ c.args.areas.now c.if-s-gt0.areas c.if-s-gt1.areas c.if-s-gt2.areas wrote slots rows _ (c.fit_len-then-s-gt3.ensures ∙ placed_in _ _ _ _ _ c.if-s-gt3.true)

pub returns-else-s-gt3 : goal.returns-else-s-gt3
returns-else-s-gt3 c =
    let wrote : Wrote c.args.kind (batched c.args.kind (lists c.args.b)) c.args.t c.args.s c.args.areas.now c.if-s-gt0.areas =
    elim c.if-s-gt0.branch [ then-s-gt0 w ↦ search (rules, wrote_in) | else-s-gt0 w ↦ search (rules, wrote_out) ] in
    let slots : SlotsPlaced c.args.t c.args.s c.if-s-gt0.areas c.if-s-gt1.areas =
    elim c.if-s-gt1.branch [ then-s-gt1 w ↦ search (rules, placed_in) | else-s-gt1 w ↦ search (rules, placed_out) ] in
    let rows : RowsPlaced c.args.t c.args.s c.if-s-gt1.areas c.if-s-gt2.areas =
    elim c.if-s-gt2.branch [ then-s-gt2 w ↦ search (rules, placed_in) | else-s-gt2 w ↦ search (rules, placed_out) ] in
    stores_ran _ _ _ _ c.args.areas.now c.if-s-gt0.areas c.if-s-gt1.areas c.if-s-gt2.areas wrote slots rows _ (placed_out _ _ _ _ _ c.if-s-gt3.false)
