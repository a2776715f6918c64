-- `loc_window::blocks::with_rows` meets its contract.
-- The invariant: the records so far are known, and of those that follow in the block the bytes are in the sums.
use mathlib.Core.Path.{refl}
use native.Mathlib.Omega.{arith}
use Rattle.loc_window.proofs.BlocksLaws.{swap_begin, swap_end, swap_byte, swap_in, swap_needs, swap_asks, swap_holds, swap_lack, swap_next}
use Rattle.loc_window.proofs.blocks.with_rows.Goals as goal

pub loop-left-init : goal.loop-left-init
loop-left-init g c =
    let m = rw c.kind_of-kind.ensures at c.row_mask-left.ensures.0 in
    (omega arith, omega arith, swap_begin _ _ _ _ _ _ _ _ _ _ _ _ c.word_at-lo.ensures c.word_at-hi.ensures c.requires.after c.block_strides.ensures.0 c.block_spans.ensures.0 c.block_strides.ensures.1 c.block_spans.ensures.1 m (omega arith))

pub overflow_cast-left : goal.overflow_cast-left
overflow_cast-left g c = omega (arith, swap_byte _ _ _ _ _ _ _ _ _ _ c.loop-left.invariant.2 (omega (arith, c.loop-left.invariant.0)))

pub overflow_add-w : goal.overflow_add-w
overflow_add-w g c = omega (arith, swap_in _ _ _ _ _ _ _ _ _ _ _ c.loop-left.invariant.2 (omega (arith, c.loop-left.invariant.0)) c.loop-left-test.true c.lowest_record-z.ensures, c.loop-left.invariant.1, c.requires.few, c.requires.numbers)

pub overflow_add-w-in-loop-left : goal.overflow_add-w-in-loop-left
overflow_add-w-in-loop-left g c = omega (arith, swap_in _ _ _ _ _ _ _ _ _ _ _ c.loop-left.invariant.2 (omega (arith, c.loop-left.invariant.0)) c.loop-left-test.true c.lowest_record-z.ensures, c.loop-left.invariant.1, c.requires.few, c.requires.numbers)

pub find_row-requires : goal.find_row-requires
find_row-requires g c = swap_asks _ _ _ _ _ _ _ _ _ _ _ c.loop-left.invariant.2 (omega (arith, c.loop-left.invariant.0)) c.loop-left-test.true c.lowest_record-z.ensures _ _ refl (omega (arith, c.loop-left.invariant.1, c.requires.few)) c.requires.rise

pub returns-in_err-i : goal.returns-in_err-i
returns-in_err-i g c =
    rw c.from_residual.ensures (swap_lack _ _ _ _ _ _ _ _ _ _ _ c.loop-left.invariant.2 (omega (arith, c.loop-left.invariant.0)) c.loop-left-test.true c.lowest_record-z.ensures c.args.w.now.past _ (omega arith) _ c.in_err-i.ensures (omega (arith, c.loop-left.invariant.1)))

pub bytes_value-old-requires : goal.bytes_value-old-requires
bytes_value-old-requires g c = (
  omega (arith, swap_in _ _ _ _ _ _ _ _ _ _ _ c.loop-left.invariant.2 (omega (arith, c.loop-left.invariant.0)) c.loop-left-test.true c.lowest_record-z.ensures, c.loop-left.invariant.1, c.requires.copied),
  omega (arith, swap_in _ _ _ _ _ _ _ _ _ _ _ c.loop-left.invariant.2 (omega (arith, c.loop-left.invariant.0)) c.loop-left-test.true c.lowest_record-z.ensures, c.loop-left.invariant.1, c.requires.few),
  swap_needs _ _ _ _ _ _ _ _ _ _ _ c.loop-left.invariant.2 (omega (arith, c.loop-left.invariant.0)) c.loop-left-test.true c.lowest_record-z.ensures,
)

pub overflow_sub-x : goal.overflow_sub-x
overflow_sub-x g c = omega (arith, (swap_holds _ _ _ _ _ _ _ _ _ _ _ c.loop-left.invariant.2 (omega (arith, c.loop-left.invariant.0)) c.loop-left-test.true c.lowest_record-z.ensures _ c.bytes_value-old.ensures).0)

pub overflow_sub-y : goal.overflow_sub-y
overflow_sub-y g c = omega (arith, (swap_holds _ _ _ _ _ _ _ _ _ _ _ c.loop-left.invariant.2 (omega (arith, c.loop-left.invariant.0)) c.loop-left-test.true c.lowest_record-z.ensures _ c.bytes_value-old.ensures).1)

pub mask_after-left-requires : goal.mask_after-left-requires
mask_after-left-requires g c = omega (arith, swap_in _ _ _ _ _ _ _ _ _ _ _ c.loop-left.invariant.2 (omega (arith, c.loop-left.invariant.0)) c.loop-left-test.true c.lowest_record-z.ensures, c.loop-left.invariant.0)

pub loop-left-smaller : goal.loop-left-smaller
loop-left-smaller g c = omega (arith, swap_in _ _ _ _ _ _ _ _ _ _ _ c.loop-left.invariant.2 (omega (arith, c.loop-left.invariant.0)) c.loop-left-test.true c.lowest_record-z.ensures, c.loop-left.invariant.1)

pub loop-left-preserved : goal.loop-left-preserved
loop-left-preserved g c =
    let value = rw c.kind_of-kind.ensures at c.row_value_at-v.ensures.0 in (
      omega (arith, c.loop-left.invariant.0),
      omega (arith, swap_in _ _ _ _ _ _ _ _ _ _ _ c.loop-left.invariant.2 (omega (arith, c.loop-left.invariant.0)) c.loop-left-test.true c.lowest_record-z.ensures, c.loop-left.invariant.1),
      swap_next _ _ _ _ _ _ _ _ _ _ _ c.loop-left.invariant.2 (omega (arith, c.loop-left.invariant.0)) c.loop-left-test.true c.lowest_record-z.ensures c.args.w.now.past _ (omega arith) c.in_ok-i.i c.bytes_value-old.result c.row_value_at-v.result _ _ _ _ _ c.in_ok-i.ensures c.bytes_value-old.ensures value c.row_value_at-v.ensures.1 c.row_value_at-v.ensures.2
          refl refl c.mask_after-left.ensures refl (omega (arith, swap_in _ _ _ _ _ _ _ _ _ _ _ c.loop-left.invariant.2 (omega (arith, c.loop-left.invariant.0)) c.loop-left-test.true c.lowest_record-z.ensures, c.loop-left.invariant.1)),
    )

pub returns : goal.returns
returns g c = (refl, swap_end _ _ _ _ _ _ _ _ _ _ _ _ c.loop-left.invariant.2 c.loop-left-test.false (omega (arith, c.loop-left.invariant.1)))
