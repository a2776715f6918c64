-- What is planned, in the form in which the code meets it, and that it is what loc_calls says.
-- Areas hold 16 bytes and rows ascend where that is a premise.
use Prim.Native.Nat.{ℕ, ◌+◌, ◌*◌, ◌/◌, ◌^◌, ◌≤◌, ◌<◌}
use mathlib.Core.Path.{◌≡◌, refl}
use mathlib.Core.Bool.{true}
use native.Mathlib.Nat.{mul-le-mul_left, mul-le-mul_right}
use native.Mathlib.Omega.{arith}
use lib.ListN.{length}
use Rattle.loc_leaf.specs.declared.Kind.{Kind}
use Rattle.loc_leaf.specs.Bytes.{Bytes}
use Rattle.loc_leaf.specs.Area.{fill}
use Rattle.loc_leaf.specs.Kind.{row_width, checkpoint_width}
use Rattle.loc_leaf.specs.Rows.{row_list, ascending, rows_up_to_by_halves}
use Rattle.loc_leaf.proofs.RowLaws.{rows_room, up_to_by_halves}
use Rattle.loc_store.specs.declared.Lengths.{Lengths}
use Rattle.loc_store.specs.Plans.{lengths_for}

-- the kept rows lie within the area
pub kept_room : (k : Kind) (xs : Bytes) (w p : ℕ) → w ≡ row_width k → p ≤ fill (row_width k) xs → 16 ≤ length xs → 16 + w * p ≤ length xs
kept_room k xs w p e h g = omega (arith, mul-le-mul_left {m = p} {n = fill (row_width k) xs} w h, rows_room k xs w (fill (row_width k) xs) e refl)

-- the checkpoints of records that fit
pub checkpoints_room : (w n : ℕ) → w ≤ 16 → 16 + 2 * n < 2 ^ 64 → 16 + w * (n / 1024) < 2 ^ 64
checkpoints_room w n h g = omega (arith, mul-le-mul_right {m = w} {n = 16} (n / 1024) h)

pub lengths_are : (k : Kind) (xs : Bytes) (n w v p : ℕ) → w ≡ row_width k → v ≡ checkpoint_width k → p ≡ rows_up_to_by_halves n (row_list k xs)
    → ascending 0 (row_list k xs) ≡ true
    → ◌≡◌ {A = Lengths} (record { slots = 16 + 2 * n; rows = 16 + w * p; checkpoints = 16 + v * (n / 1024) }) (lengths_for k n xs)
unfolding lengths_for
lengths_are k xs n w v p ew ev ep a = rw (ew, ev, ep, up_to_by_halves (row_list k xs) a n) refl
