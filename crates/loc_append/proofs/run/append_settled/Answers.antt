-- `run::append_settled` meets its contract.
-- A refusal leaves the areas; else the stage is that of the areas at entry, and the run is over its places.
use mathlib.Core.Path.{refl}
use Rattle.std.proofs.lemmas.Result.{err_from_is_err_and}
use Rattle.loc_append.proofs.RunLaws.{append_planned, append_room, append_held, append_done}
use Rattle.loc_append.proofs.run.append_settled.Goals as goal

pub returns-in_err-stage : goal.returns-in_err-stage
returns-in_err-stage c =
    let p = err_from_is_err_and c.from_residual.result c.from_residual.ensures.1 in
    rw (p.1, p.2) (append_planned _ _ _ _ _ c.shared.ensures _ c.requires _ c.in_err-stage.ensures, (refl, refl, refl))

pub append_stores-requires : goal.append_stores-requires
append_stores-requires c = record {
  room_past = append_room _ _ c.args.places _ _ c.shared.ensures _ c.requires _ c.in_ok-stage.ensures;
  holds = append_held _ _ c.args.places _ _ c.shared.ensures _ c.requires _ c.in_ok-stage.ensures;
}

pub returns : goal.returns
returns c = (
  append_done _ _ _ _ _ c.shared.ensures _ c.requires _ c.in_ok-stage.ensures _ _ _ c.append_stores.ensures.0 c.shared-2.ensures c.published.ensures.count,
  c.append_stores.ensures.1,
)
