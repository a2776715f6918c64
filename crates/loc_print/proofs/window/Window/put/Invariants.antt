-- `loc_print::window::Window::put` meets its contract.
use mathlib.Core.Path.{◌≡◌}
use lib.ListN.{length, take}
use Rattle.loc_print.specs.Printed.{numbers_after}
use Rattle.loc_print.proofs.window.Window.put.Given as goal

abbrev pub invariant-loop-i : goal.invariant-loop-i
invariant-loop-i l = (take l.i l.self.wanted ≡ numbers_after l.done l.i) × (length l.self.wanted ≡ 1024) × (length l.self.answers ≡ 6144)
