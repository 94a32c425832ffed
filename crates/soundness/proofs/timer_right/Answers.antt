-- `soundness::timer_right` meets its contract. Assumes nothing.
use Rattle.store.specs.Rows.{field}
use Rattle.soundness.proofs.timer_right.Goals as goal

pub returns : goal.returns
unfolding field
returns c = rw (← c.read.ensures) c.legal.ensures
