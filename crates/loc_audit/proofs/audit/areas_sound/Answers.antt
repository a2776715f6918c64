-- `loc_audit::audit::areas_sound` meets its contract. After a record's own row the reader goes on to the next place; else it stays where it is.
use Prim.Native.Nat.{ℕ}
use mathlib.Core.Path.{◌≡◌, refl, sym, ap, ◌∙◌}
use native.Mathlib.Omega.{arith}
use lib.ListN.{length, take, length-take}
use Rattle.loc_leaf.specs.Area.{counted}
use Rattle.loc_leaf.specs.Kind.{row_width}
use Rattle.loc_audit.proofs.PassLaws.{pass_begins, pass_stops, pass_on, pass_same, pass_done, own_inside}
use Rattle.loc_audit.proofs.audit.areas_sound.Goals as goal
use Rattle.loc_audit.proofs.audit.areas_sound.Goals.{then-is_some, else-is_some}

pub loop-n-init : goal.loop-n-init
loop-n-init c =
    let lent : c.new-r.result.rows.now ≡ take c.logical_len-end.result c.args.a.rows.now = rw c.new-r.ensures.0 refl in
    let wide : c.new-r.result.width ≡ row_width c.args.kind = c.new-r.ensures.2 ∙ c.row_width.ensures.0 in
    record {
      lent = rw lent (ap (λ (n : ℕ). take n c.args.a.rows.now) c.logical_len-end.ensures.0);
      width = wide;
      found = rw (← wide) c.here-row.ensures;
      passed = rw (lent, c.new-r.ensures.1) (pass_begins _ _ _ c.requires.0 c.logical_len-end.ensures.0 c.logical_len-end.ensures.1);
    }

pub returns-in_default : goal.returns-in_default
returns-in_default c =
    let i = c.loop-n.invariant in
    pass_stops _ _ c.requires.0 _ _ _ _ i.passed _ i.found _ c.requires.1 c.loop-n-test.true _ c.own_value-own.ensures _ c.ends_after.ensures c.in_default.is

pub onward-r-requires : goal.onward-r-requires
onward-r-requires c =
    let i = c.loop-n.invariant in
    omega (
      arith,
      ap length i.lent,
      length-take (counted c.args.a.rows.now) c.args.a.rows.now,
      own_inside _ _ _ _ _ i.found _ c.own_value-own.ensures (sym c.is_some.ensures ∙ c.if-is_some.true),
    )

pub loop-n-preserved : goal.loop-n-preserved
loop-n-preserved c =
    let i = c.loop-n.invariant in
    elim c.if-is_some.branch [
      | then-is_some w ↦
          rw (w.r-is, w.row-is)
          (record {
            lent = cc;
            width = cc;
            found = cc;
            passed = rw (w.onward-r.ensures.0, w.onward-r.ensures.1, i.width)
                (pass_on _ _ c.requires.0 _ _ _ _ i.passed _ i.found _ c.requires.1 c.loop-n-test.true _ c.own_value-own.ensures _ c.ends_after.ensures _ c.in-Some.is
                (sym c.is_some.ensures ∙ w.if-is_some.true));
          })
      | else-is_some w ↦
          rw (w.r-is, w.row-is)
          (record {
            lent = i.lent;
            width = i.width;
            found = i.found;
            passed =
                pass_same _ _ c.requires.0 _ _ _ _ i.passed _ i.found _ c.requires.1 c.loop-n-test.true _ c.own_value-own.ensures _ c.ends_after.ensures _ c.in-Some.is
                (sym c.is_some.ensures ∙ w.if-is_some.false);
          })
    ]

pub returns : goal.returns
returns c =
    let i = c.loop-n.invariant in
    pass_done _ _ c.requires.0 _ _ _ _ i.passed _ i.found _ c.requires.1 c.loop-n.auto.n-end c.loop-n-test.false _ c.is_none.ensures
