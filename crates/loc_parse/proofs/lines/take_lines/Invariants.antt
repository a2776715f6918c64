-- `loc_parse::lines::take_lines` meets its contract.
use Prim.Native.Nat.{◌+◌, ◌-◌}
use mathlib.Core.Path.{◌≡◌}
use Rattle.loc_parse.specs.Lines.{lines_from, empty}
use Rattle.loc_parse.specs.Lists.{firsts, Room}
use Rattle.loc_parse.proofs.lines.take_lines.Given as goal

abbrev pub invariant-loop-records : goal.invariant-loop-records
invariant-loop-records l =
    (lines_from l.text 1024 l.first 53 empty ≡ lines_from l.text (1024 - l.records) (l.first + l.records) l.at (firsts l.records l.starts l.lens l.span_starts l.span_counts))
    × Room l.starts l.lens l.span_starts l.span_counts
