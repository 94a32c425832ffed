-- `listing::hear` ends: each call takes at least one octet of what is left. Assumes nothing.
use Rattle.std.proofs.Common.{length}
use Rattle.listing.proofs.hear.Given as goal

abbrev pub decreases-loop-rest : goal.decreases-loop-rest
decreases-loop-rest g l = length l.rest
