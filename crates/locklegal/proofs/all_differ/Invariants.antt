-- Of `locklegal::all_differ`: the locks from i on differ, and the bucket of each is taken. Assumes nothing.
use Rattle.locklegal.proofs.Covering.{Behind}
use Rattle.locklegal.proofs.all_differ.Given as goal

abbrev pub invariant-loop-i : goal.invariant-loop-i
invariant-loop-i l = Behind l.taken l.i l.locks
