-- `listing::show::skip` is safe and ends: each turn reads some of the octets that are left. Assumes nothing.
use Rattle.listing.proofs.show.skip.Given as goal

abbrev pub decreases-loop-octets : goal.decreases-loop-octets
decreases-loop-octets g l = l.left
