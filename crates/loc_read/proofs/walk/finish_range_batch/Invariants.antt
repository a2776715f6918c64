-- `loc_read::walk::finish_range_batch` meets its contract.
-- Between windows: what is answered, and that the rows passed are those up to the last window's end. Within one: the sums so far.
use Rattle.std.proofs.Common.{◌+◌, ◌-◌, ◌*◌, ◌≡◌, length}
use Rattle.loc_leaf.specs.Answers.{refusal_of}
use Rattle.loc_leaf.specs.Rows.{row_list, rows_up_to}
use Rattle.loc_calls.specs.Lent.{seen}
use Rattle.loc_window.specs.Window.{Summing}
use Rattle.loc_read.specs.Walk.{Passing}
use Rattle.loc_read.proofs.walk.finish_range_batch.Given as goal

abbrev pub invariant-loop-s : goal.invariant-loop-s
invariant-loop-s l =
    (refusal_of l.walked ≡ 0) × Summing l.lent.kind 1025 l.lent.base l.lent.m l.lent.bytes.now l.lent.rows.now l.lent.past l.lent.mark.now l.lent.stamp l.s.block l.s l.body l.span

abbrev pub decreases-loop-s : goal.decreases-loop-s
decreases-loop-s l = l.lent.m + 8 - 8 * l.s.block

abbrev pub invariant-windows : goal.invariant-windows
invariant-windows l =
    (refusal_of l.walked ≡ 0) × (length l.bytes ≡ 2048) × (length l.body ≡ 1025) × (length l.span ≡ 1025) × (length l.mark ≡ 128) × Passing l.kind (seen l.a) l.wanted l.keys l.i l.initial.out l.out × (l.passed ≡ rows_up_to l.end (row_list l.kind l.a.rows.now))

abbrev pub decreases-windows : goal.decreases-windows
decreases-windows l = length l.keys - l.i
