-- `loc_print::listing::listing_text` meets its contract.
use native.Mathlib.Omega.{arith}
use Rattle.loc_print.proofs.WindowLaws.{listing_none, listing_put}
use Rattle.loc_print.proofs.listing.listing_text.Goals as goal
use Rattle.loc_print.proofs.listing.listing_text.Goals.{then-out-lt53-via-then-out-lt53, then-out-lt53-via-else-out-lt53+then-out-count}

pub returns-then-out-lt53 : goal.returns-then-out-lt53
returns-then-out-lt53 c =
    listing_none _ _ _ _ _ c.published-count.ensures.count (elim c.then-out-lt53.branch [ then-out-lt53-via-then-out-lt53 w ↦ omega arith | then-out-lt53-via-else-out-lt53+then-out-count w ↦ omega arith ])

pub returns : goal.returns
returns c = listing_put _ _ _ _ _ c.published-count.ensures.count (omega arith) _ _ c.put_windows.ensures
