-- `taking::take_all` meets its contract: what is left of the part, taken from here on, is the part taken from the start. Assumes nothing.
use Prim.Native.Nat.{◌-◌, ◌≤◌}
use lib.ListN.{length}
use Rattle.turning.specs.Turning.{lent}
use Rattle.taking.proofs.Onward.{Onward}
use Rattle.taking.proofs.take_all.Given as goal

abbrev pub invariant-loop-p : goal.invariant-loop-p
invariant-loop-p l =
    (l.p.taken ≤ length l.part)
    × (l.p.written ≤ length l.out)
    × Onward l.part (lent l.initial.p.line 0 l.initial.held l.initial.store l.initial.reply l.initial.out) l.p.taken (lent l.p.line l.p.written l.held l.store l.reply l.out)

abbrev pub decreases-loop-p : goal.decreases-loop-p
decreases-loop-p l = length l.part - l.p.taken
