-- `show::sight_many` is safe: the count is at most the tags sighted. Assumes nothing.
use Rattle.std.proofs.Common.{◌≤◌}
use Rattle.show.proofs.sight_many.Given as goal

abbrev pub invariant-loop-i : goal.invariant-loop-i
invariant-loop-i l = l.count ≤ l.i
