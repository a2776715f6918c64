-- `loc_window::records::records` meets its contract.
-- The invariant: the sums of k records are known, and all from the first on are stored.
use mathlib.Core.Path.{◌≡◌}
use Rattle.std.specs.Prelude.{not, eqb}
use Rattle.loc_window.specs.Window.{kind_of, After, Written}
use Rattle.loc_window.proofs.records.records.Given as goal

abbrev pub invariant-loop-k : goal.invariant-loop-k
invariant-loop-k g l =
    (l.t.block ≡ l.fn.s.block)
    × After (kind_of (not (eqb g.row.PAIRED 0))) l.w.base l.w.bytes.now l.w.rows.now l.k l.t
    × Written (kind_of (not (eqb g.row.PAIRED 0))) l.w.base l.w.bytes.now l.w.rows.now l.from l.k l.initial.body l.initial.span l.body l.span
