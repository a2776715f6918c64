-- `loc_listing::put_field` meets its contract.
use native.Mathlib.Omega.{arith}
use Rattle.loc_listing.proofs.TextLaws.{put_then, put_byte}
use Rattle.loc_listing.specs.Text.{decimal}
use Rattle.loc_listing.proofs.put_field.Goals as goal

pub returns : goal.returns
unfolding decimal
returns c = (put_then _ _ c.put_digits-next.ensures.0 (put_byte _ _ _), omega arith)
