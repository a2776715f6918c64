-- `staging::write_bytes` meets its contract.
-- A part has room for what is staged into it, and what begins it then stands past the published end.
use mathlib.Core.Path.{refl, ap, ◌∙◌}
use Rattle.loc_leaf.specs.Area.{counted}
use Rattle.loc_calls.specs.Areas.{Areas}
use Rattle.loc_calls.specs.Lent.{held}
use Rattle.loc_batch.proofs.StageLaws.{parts_room, parts_staged}
use Rattle.loc_batch.proofs.staging.write_bytes.Goals as goal

pub write_batch-requires-clause-room : goal.write_batch-requires-clause-room
write_batch-requires-clause-room c =
    parts_room _ _ _ (held c.args.areas.now) c.requires.room _ _ _
    (c.logical_len-slot_end.ensures.0 ∙ ap (λ (a : Areas). counted a.slots) c.shared-a.ensures)
    (c.logical_len-row_end.ensures.0 ∙ ap (λ (a : Areas). counted a.rows) c.shared-a.ensures)
    (c.logical_len-checkpoint_end.ensures.0 ∙ ap (λ (a : Areas). counted a.checkpoints) c.shared-a.ensures)

pub returns : goal.returns
returns c = (
  parts_staged _ _ _ (held c.args.areas.now) c.requires.room _ _ _
      (c.logical_len-slot_end.ensures.0 ∙ ap (λ (a : Areas). counted a.slots) c.shared-a.ensures)
      (c.logical_len-row_end.ensures.0 ∙ ap (λ (a : Areas). counted a.rows) c.shared-a.ensures)
      (c.logical_len-checkpoint_end.ensures.0 ∙ ap (λ (a : Areas). counted a.checkpoints) c.shared-a.ensures)
      _ _ _ c.write_batch.ensures,
  (refl, refl, refl),
)
