-- `loc_listing::put_digits` ends: it calls itself with one digit less to put.
use Rattle.loc_listing.proofs.+put_digits.Given as goal

abbrev pub decreases-put_digits : goal.decreases-put_digits
decreases-put_digits l = l.most
