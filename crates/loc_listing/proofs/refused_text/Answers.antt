-- `loc_listing::refused_text` meets its contract.
use Rattle.loc_listing.proofs.TextLaws.{refused_none, refused_put}
use Rattle.loc_listing.proofs.refused_text.Goals as goal

pub returns-then-out-lt29 : goal.returns-then-out-lt29
returns-then-out-lt29 c = refused_none _ _ c.if-out-lt29.true

pub returns : goal.returns
returns c = refused_put _ _ _ _ _ _ c.if-out-lt29.false c.put_bytes-at.ensures c.put_field.ensures.0 c.put_field.ensures.1
