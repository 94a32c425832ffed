-- Of `sightings::tick`: the first d desks are ticked. Assumes nothing.
use Rattle.sightings.proofs.Ticks.{TickedTo}
use Rattle.sightings.proofs.tick.Given as goal

abbrev pub invariant-loop-d : goal.invariant-loop-d
invariant-loop-d l = TickedTo l.d l.initial.s l.s
