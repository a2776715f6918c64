-- `loc_window::blocks::blocks_of` meets its contract.
-- The invariant: the sums of the blocks so far, none of which is marked from the first stop on.
use Rattle.loc_window.proofs.BlocksLaws.{blocks_begin, blocks_next, stepped_next, stepped_lack}
use Rattle.loc_window.proofs.blocks.blocks_of.Goals as goal

pub loop-t-init : goal.loop-t-init
loop-t-init g c = blocks_begin _ _ _ _ _ _ _ _ _ c.requires.0.few c.requires.0.after c.plain-t.ensures

pub returns-in_err-u : goal.returns-in_err-u
returns-in_err-u g c = rw c.from_residual.ensures (stepped_lack _ _ _ _ _ c.with_rows.result c.with_rows.ensures _ c.in_err-u.was c.loop-t-test.true)

pub loop-t-preserved : goal.loop-t-preserved
loop-t-preserved g c =
    blocks_next _ _ _ _ _ _ _ _ _ _ _ c.requires.0.few c.loop-t.invariant c.if-w-t.true (stepped_next _ _ _ _ _ c.with_rows.result c.with_rows.ensures c.in_ok-u.u c.in_ok-u.was) c.plain-t-in-loop-t.ensures
