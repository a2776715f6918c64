-- `loc_listing::window_text` meets its contract.
use native.Mathlib.Omega.{arith}
use Rattle.std.proofs.lemmas.Bool.Decides.{nat_tests}
use Rattle.loc_listing.specs.Text.{fits}
use Rattle.loc_listing.proofs.TextLaws.{window_fits, window_none}
use Rattle.loc_listing.proofs.window_text.Goals as goal

pub returns-then-not-lines_fit : goal.returns-then-not-lines_fit
returns-then-not-lines_fit c = window_none _ _ _ _ (grind arith)

pub put_lines-requires : goal.put_lines-requires
unfolding fits
put_lines-requires c = grind (arith, nat_tests)

pub returns : goal.returns
returns c = window_fits _ _ _ _ _ _ (grind arith) c.put_lines.ensures.0 c.put_lines.ensures.1
