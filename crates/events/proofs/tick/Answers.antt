-- `events::tick` meets its contract. Assumes nothing.
use Rattle.events.proofs.Events.{ticked-answered}
use Rattle.events.proofs.tick.Goals as goal

pub returns : goal.returns
returns c = ticked-answered _ _ _ c.tick.ensures
