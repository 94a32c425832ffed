-- `lockarea::lookup_in` meets its contract where no lock stands. Assumes nothing.
use Rattle.locks.specs.Locks.{found_from}
use Rattle.lockarea.proofs.Stored.{no-locks}
use Rattle.lockarea.proofs.lookup_in.Goals as goal

pub returns-then-n-eq0 : goal.returns-then-n-eq0
unfolding found_from
returns-then-n-eq0 c = rw (no-locks _ c.args.p.now c.if-n-eq0.true)
