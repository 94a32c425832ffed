-- Of `lockarea::save`: the first i locks are put. Assumes nothing.
use Rattle.std.proofs.Common.{◌≡◌, take}
use Rattle.octets.specs.Parts.{put}
use Rattle.lockarea.specs.Area.{locks_octets}
use Rattle.lockarea.proofs.save.Given as goal

abbrev pub invariant-loop-i : goal.invariant-loop-i
invariant-loop-i l = l.p ≡ put 0 (locks_octets (take l.i l.locks)) l.initial.p
