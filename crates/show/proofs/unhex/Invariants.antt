-- `show::unhex` is safe: the digits are no more than the octets of the text. Assumes nothing.
use Rattle.std.proofs.Common.{◌≤◌}
use Rattle.show.proofs.unhex.Given as goal

abbrev pub invariant-loop-c : goal.invariant-loop-c
invariant-loop-c l = l.n ≤ l.c-index
