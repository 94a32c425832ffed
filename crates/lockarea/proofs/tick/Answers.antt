-- `lockarea::tick` meets its contract where no lock stands. Assumes nothing.
use Rattle.std.proofs.Common.{refl}
use Rattle.octets.specs.Parts.{put, joined}
use Rattle.locks.specs.Locks.{swept_of}
use Rattle.lockarea.specs.Area.{locks_octets}
use Rattle.lockarea.proofs.Stored.{no-locks}
use Rattle.lockarea.proofs.tick.Goals as goal

pub returns-then-n-eq0 : goal.returns-then-n-eq0
unfolding swept_of locks_octets joined put
returns-then-n-eq0 c = rw (no-locks _ c.args.p.now c.if-n-eq0.true) (refl, refl)
