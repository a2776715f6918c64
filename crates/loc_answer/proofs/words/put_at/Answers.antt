-- `loc_answer::words::put_at` meets its contract.
use Rattle.std.proofs.Common.{ℕ, List, ◌≡◌, ◌≤◌, ◌+◌, ◌-◌, take, drop, length, ap, arith, length-take, length-drop}
use Rattle.loc_answer.proofs.PutLaws.{stored}
use Rattle.loc_answer.proofs.words.put_at.Goals as goal

-- a copy fits the part that it is made to
part_long : (o ws now : List ℕ) (i w : ℕ) → now ≡ ws → length now ≡ length (take (i + w - i) (drop i o)) → i + w ≤ length o → length ws ≡ w
part_long o ws now i w e l h = omega (arith, ap length e, length-take {A = ℕ}, length-drop {A = ℕ})

pub returns : goal.returns
returns g c =
    let n = part_long c.args.out.now _ _ _ g.row.N c.copy_from_slice.ensures.after c.copy_from_slice.ensures.len c.requires in
    stored g.row.N c.args.out.now c.args.p _ c.args.words _ (omega arith) c.copy_from_slice.ensures.after n c.requires
