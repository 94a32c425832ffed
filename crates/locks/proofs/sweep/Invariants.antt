-- Of `locks::sweep`: after i turns the first i locks are swept, and n of them are left. Assumes nothing.
use Rattle.std.proofs.Common.{◌≡◌}
use Rattle.locks.proofs.Sweeps.{left-of, sweep_to}
use Rattle.locks.proofs.sweep.Given as goal

abbrev pub invariant-loop-i : goal.invariant-loop-i
invariant-loop-i l = (l.n ≡ left-of l.i l.initial.locks) × (l.locks ≡ sweep_to l.i l.initial.locks)
