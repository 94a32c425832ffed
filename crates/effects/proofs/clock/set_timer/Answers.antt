-- `effects::clock::set_timer` meets its contract. Assumes nothing.
use Rattle.effects.proofs.Done.{set-done}
use Rattle.effects.proofs.clock.set_timer.Goals as goal

pub returns : goal.returns
returns c = search set-done
