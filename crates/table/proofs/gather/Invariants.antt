-- Of `table::gather`: the first i entries are read. Assumes nothing.
use Rattle.std.proofs.Common.{◌≡◌, length}
use Rattle.table.proofs.Gathers.{Gathered}
use Rattle.table.proofs.gather.Given as goal

abbrev pub invariant-loop-i : goal.invariant-loop-i
invariant-loop-i l = Gathered l.t l.d l.m l.i l.c l.initial.out l.out × (length l.out ≡ length l.initial.out)
