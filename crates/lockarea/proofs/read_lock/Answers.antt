-- `lockarea::read_lock` meets its contract, by those of its two callees. Assumes nothing.
use Rattle.lockarea.proofs.Stored.{lock-at}
use Rattle.lockarea.proofs.read_lock.Goals as goal

pub returns : goal.returns
returns c = rw (lock-at, c.get16.ensures, c.number.ensures)
