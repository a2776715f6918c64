-- `loc_listing::put_bytes` meets its contract.
use mathlib.Core.Path.{refl}
use Rattle.loc_listing.proofs.TextLaws.{put_start}
use Rattle.loc_listing.proofs.put_bytes.Goals as goal

pub returns : goal.returns
returns c = (rw c.copy_from_slice.ensures.after (put_start _ _ c.requires), refl)
