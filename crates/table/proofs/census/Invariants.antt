-- Of `table::census`: the first i entries are counted. Assumes nothing.
use Rattle.std.proofs.Common.{◌≡◌, length, Some}
use Rattle.table.specs.Entries.{desks, entries, Counted}
use Rattle.table.proofs.census.Given as goal

abbrev pub invariant-loop-i : goal.invariant-loop-i
invariant-loop-i l = Counted (entries l.i l.t) (Some l.counts) × (length l.counts ≡ desks)
