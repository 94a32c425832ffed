-- `lockarea::load` meets its contract. Assumes nothing.
use Rattle.std.proofs.Common.{[], arith}
use Rattle.lockarea.proofs.Stored.{loaded-none, loaded-more}
use Rattle.lockarea.proofs.load.Goals as goal

pub loop-i-init : goal.loop-i-init
loop-i-init c = loaded-none [] _

pub loop-i-preserved : goal.loop-i-preserved
loop-i-preserved c =
    let l = c.loop-i in
    loaded-more l.locks l.i c.read_lock.result _ (omega arith) l.invariant c.read_lock.ensures
