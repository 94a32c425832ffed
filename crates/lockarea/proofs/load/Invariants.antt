-- Of `lockarea::load`: the first i are the first i locks of the store. Assumes nothing.
use Rattle.std.proofs.Common.{◌≡◌, take}
use Rattle.lockarea.specs.Area.{locks_in}
use Rattle.lockarea.proofs.load.Given as goal

abbrev pub invariant-loop-i : goal.invariant-loop-i
invariant-loop-i l = take l.i l.locks ≡ locks_in l.i l.p
