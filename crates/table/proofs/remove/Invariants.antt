-- Of `table::remove`: the first i entries are settled. Assumes nothing.
use Rattle.std.proofs.Common.{◌≡◌, length}
use Rattle.table.proofs.Sweeps.{Swept}
use Rattle.table.proofs.remove.Given as goal

abbrev pub invariant-loop-i : goal.invariant-loop-i
invariant-loop-i l = Swept l.initial.t l.d l.k l.i l.s.kept l.s.left l.t × (length l.t ≡ length l.initial.t)
