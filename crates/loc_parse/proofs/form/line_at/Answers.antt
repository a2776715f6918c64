-- `loc_parse::form::line_at` meets its contract.
use Prim.Native.Nat.{◌-◌, ◌^◌}
use mathlib.Core.Path.{sym}
use native.Mathlib.Omega.{arith}
use Rattle.loc_number.proofs.SpellLaws.{number_small}
use Rattle.loc_parse.specs.Lines.{◌then◌, line_at}
use Rattle.loc_parse.proofs.form.line_at.Goals as goal

pub returns-in_err-number : goal.returns-in_err-number
unfolding line_at ◌then◌
returns-in_err-number c = grind arith

pub returns-in_err-start : goal.returns-in_err-start
unfolding line_at ◌then◌
returns-in_err-start c = grind arith

pub returns-in_err-len : goal.returns-in_err-len
unfolding line_at ◌then◌
returns-in_err-len c = grind arith

pub returns-in_err-span_start : goal.returns-in_err-span_start
unfolding line_at ◌then◌
returns-in_err-span_start c = grind arith

pub returns-in_err-span_len : goal.returns-in_err-span_len
unfolding line_at ◌then◌
returns-in_err-span_len c = grind arith

pub returns-in_err-count : goal.returns-in_err-count
unfolding line_at ◌then◌
returns-in_err-count c = grind arith

pub overflow_cast-spans : goal.overflow_cast-spans
overflow_cast-spans c = record { fits = omega (arith, number_small (2 ^ 32 - 1) 10 (omega arith) _ _ _ _ (sym c.in_ok-count.ensures)) }

pub returns : goal.returns
unfolding line_at ◌then◌
returns c = grind arith
