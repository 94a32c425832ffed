-- `lockarea::write_lock` meets its contract, by those of its two callees. Assumes nothing.
use Rattle.lockarea.proofs.Stored.{put-lock}
use Rattle.lockarea.proofs.write_lock.Goals as goal

pub returns : goal.returns
returns c = rw (put-lock, ← c.put.ensures, ← c.from.ensures) c.put-2.ensures
