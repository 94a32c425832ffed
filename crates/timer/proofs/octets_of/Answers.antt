-- `timer::octets_of` meets its contract. Assumes nothing.
use Rattle.octets.specs.Numbers.{octets}
use Rattle.timer.specs.Clock.{timer_octets}
use Rattle.timer.proofs.octets_of.Goals as goal

pub returns : goal.returns
unfolding timer_octets octets
returns c = rw (c.octets.ensures, c.from.ensures)
