-- `effects::clock::reset` meets its contract. Assumes nothing.
use Rattle.effects.proofs.Done.{reset-done}
use Rattle.effects.proofs.clock.reset.Goals as goal

pub returns : goal.returns
returns c = search reset-done
