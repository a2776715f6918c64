-- `loc_rows::RowReader::ascend` meets its contract: where a row stands, the next place is inside, and its number goes on or refuses;
-- where none does, all ascend.
use mathlib.Core.Path.{◌≡◌, sym, ◌∙◌}
use native.Mathlib.Omega.{arith}
use lib.ListN.{length}
use Rattle.loc_rows.proofs.ReaderLaws.{row_inside, row_low, row_above, no_row}
use Rattle.loc_rows.proofs.RowReader.ascend.Goals as goal

pub returns-then-row-last : goal.returns-then-row-last
returns-then-row-last c =
    let i = c.loop-row.invariant in row_low _ _ _ _ i.wide _ i.decides _ (sym c.in-Some.is ∙ c.here.ensures) c.if-row-last.true

pub onward-self-requires : goal.onward-self-requires
onward-self-requires c =
    let i = c.loop-row.invariant in
    let n : length c.loop-row.self.rows.now ≡ length c.args.self.rows.now = cc in
    omega (arith, row_inside _ _ _ _ i.wide _ i.decides _ (sym c.in-Some.is ∙ c.here.ensures))

pub loop-row-smaller : goal.loop-row-smaller
loop-row-smaller c =
    let i = c.loop-row.invariant in
    let n : length c.onward-self.result.rows.now ≡ length c.loop-row.self.rows.now = cc in
    omega (arith, row_inside _ _ _ _ i.wide _ i.decides _ (sym c.in-Some.is ∙ c.here.ensures))

pub loop-row-preserved : goal.loop-row-preserved
loop-row-preserved c =
    let i = c.loop-row.invariant in
    let e = row_above _ _ _ _ i.wide _ i.decides _ (sym c.in-Some.is ∙ c.here.ensures) c.if-row-last.false in
    record { lent = cc; wide = omega arith; decides = cc }

pub returns : goal.returns
returns c = let i = c.loop-row.invariant in no_row _ _ _ _ i.wide _ i.decides (cc)
