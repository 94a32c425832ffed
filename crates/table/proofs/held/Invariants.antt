-- Of `table::held`: the first i entries are counted. Assumes nothing.
use Rattle.std.proofs.Common.{◌≡◌, length}
use Rattle.table.specs.Entries.{entries, records_of}
use Rattle.table.proofs.held.Given as goal

abbrev pub invariant-loop-i : goal.invariant-loop-i
invariant-loop-i l = l.c ≡ length (records_of l.d (entries l.i l.t))
