-- `lockarea::save` meets its contract. Assumes nothing.
use Rattle.std.proofs.Common.{[], ◌∙◌, arith}
use Rattle.lockarea.proofs.Stored.{saved-none, saved-more}
use Rattle.lockarea.proofs.save.Goals as goal

pub loop-i-init : goal.loop-i-init
loop-i-init c = saved-none [] _

pub loop-i-preserved : goal.loop-i-preserved
loop-i-preserved c =
    let l = c.loop-i in
    c.write_lock.ensures ∙ rw l.invariant (saved-more _ l.i _ _ (omega arith))
