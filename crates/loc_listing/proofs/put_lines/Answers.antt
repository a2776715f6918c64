-- `loc_listing::put_lines` meets its contract.
use mathlib.Core.Path.{refl}
use native.Mathlib.Omega.{arith}
use borrow.Author.Rules.{rules}
use Rattle.loc_listing.proofs.TextLaws.{lines_none, lines_more, line_part}
use Rattle.loc_listing.proofs.put_lines.Goals as goal

pub loop-i-init : goal.loop-i-init
loop-i-init c = (lines_none _ _ _, omega arith, refl)

pub loop-i-preserved : goal.loop-i-preserved
loop-i-preserved c = (lines_more _ _ _ c.loop-i.invariant.0 (line_part _ _ _ _ _ (omega arith) c.line_text-at.ensures.0), omega arith, search rules)
