-- `loc_listing::put_digits` meets its contract.
use native.Mathlib.Omega.{arith}
use Rattle.loc_listing.proofs.TextLaws.{digits_none, digits_one, digits_more}
use Rattle.loc_listing.proofs.+put_digits.Goals as goal

pub returns-then-most-eq0 : goal.returns-then-most-eq0
returns-then-most-eq0 t c = (digits_none _ _ _ _ c.if-most-eq0.true, omega arith)

pub returns-then-n-lt10 : goal.returns-then-n-lt10
returns-then-n-lt10 t c =
    (digits_one _ _ _ _ c.if-most-eq0.false c.if-n-lt10.true, omega arith)

pub returns : goal.returns
returns t c =
    (digits_more _ _ _ _ c.if-most-eq0.false (omega arith) _ _ c.put_digits-next.ensures.0, omega arith)
