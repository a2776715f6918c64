-- `loc_parse::lines::parse` meets its contract.
use native.Mathlib.Omega.{arith}
use Rattle.loc_parse.specs.Lines.{parsed}
use Rattle.loc_parse.proofs.lines.parse.Goals as goal

pub returns-then-not-has_names : goal.returns-then-not-has_names
unfolding parsed
returns-then-not-has_names c = record { same = grind arith; few = omega arith }

pub returns : goal.returns
unfolding parsed
returns c = record { same = grind arith; few = c.take_lines.ensures.few }
