-- `loc_store::plan::lengths` meets its contract.
-- The lengths fit 64 bits, since the kept rows lie within their area. Where rows ascend, halves find how many are kept.
use native.Mathlib.Omega.{arith}
use borrow.Author.Rules.{rules}
use Rattle.loc_store.proofs.PlanLaws.{kept_room, checkpoints_room, lengths_are}
use Rattle.loc_store.proofs.plan.lengths.Goals as goal

pub overflow_mul-row_bytes : goal.overflow_mul-row_bytes
overflow_mul-row_bytes c =
    omega (arith, kept_room c.args.kind _ _ _ c.row_width.ensures.0 c.rows_up_to.ensures.1 c.requires.1)

pub overflow_mul-checkpoint_bytes : goal.overflow_mul-checkpoint_bytes
overflow_mul-checkpoint_bytes c = omega (arith, checkpoints_room _ _ c.checkpoint_width.ensures.2 c.requires.0)

pub overflow_add-result-2 : goal.overflow_add-result-2
overflow_add-result-2 c =
    omega (arith, kept_room c.args.kind _ _ _ c.row_width.ensures.0 c.rows_up_to.ensures.1 c.requires.1)

pub overflow_add-result-3 : goal.overflow_add-result-3
overflow_add-result-3 c = omega (arith, checkpoints_room _ _ c.checkpoint_width.ensures.2 c.requires.0)

pub returns : goal.returns
returns c =
    (search (rules, lengths_are), kept_room c.args.kind _ _ _ c.row_width.ensures.0 c.rows_up_to.ensures.1 c.requires.1)
