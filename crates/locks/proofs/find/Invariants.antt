-- Of `locks::find`: the first lock with that UID is the first from here on. Assumes nothing.
use Rattle.std.proofs.Common.{◌≡◌, drop}
use Rattle.locks.specs.Locks.{found_in, found_from}
use Rattle.locks.proofs.find.Given as goal

abbrev pub invariant-loop-i : goal.invariant-loop-i
invariant-loop-i l = found_in l.uid l.locks ≡ found_from l.i l.uid (drop l.i l.locks)
