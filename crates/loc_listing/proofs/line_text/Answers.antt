-- `loc_listing::line_text` meets its contract.
use mathlib.Core.Path.{◌≡◌, refl, ◌∙◌}
use native.Mathlib.Numerals.{add-one}
use native.Mathlib.Omega.{arith}
use lib.ListN.{length, take}
use lib.Seq.{take-suc, take_all, length-take-le}
use borrow.Author.Rules.{rules}
use Rattle.loc_listing.specs.Text.{decimal}
use Rattle.loc_listing.proofs.TextLaws.{put_nothing, put_then, spaced, spaced_more, six_fields, line_none, line_put}
use Rattle.loc_listing.proofs.line_text.Goals as goal

pub returns-then-out-lt126 : goal.returns-then-out-lt126
returns-then-out-lt126 c = line_none _ _ c.if-out-lt126.true

pub loop-n-init : goal.loop-n-init
unfolding spaced
loop-n-init c = (put_nothing _ _, omega arith, refl)

pub put_field-at-requires : goal.put_field-at-requires
put_field-at-requires c = omega (arith, length-take-le 5 c.args.fields)

pub loop-n-preserved : goal.loop-n-preserved
loop-n-preserved c = (
  rw (add-one c.loop-n.n-index, take-suc (take 5 c.args.fields) c.loop-n.n-index 0 c.loop-n-test.true, spaced_more)
      (put_then _ _ c.loop-n.invariant.0 c.put_field-at.ensures.0),
  omega arith,
  c.put_field-at.auto.out ∙ c.loop-n.invariant.2,
)

pub returns : goal.returns
unfolding decimal
returns c =
    let five : length (take 5 c.args.fields) ≡ 5 = length-take-le 5 c.args.fields (omega arith) in
    let all : take c.loop-n.n-index (take 5 c.args.fields) ≡ take 5 c.args.fields = take_all _ _ c.loop-n-test.false in
    line_put _ _ _ _ c.if-out-lt126.false (six_fields _ (search rules) (rw all at c.loop-n.invariant.0) c.put_field.ensures.0) (omega arith)
