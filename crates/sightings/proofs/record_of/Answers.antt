-- `sightings::record_of` meets its contract. Assumes nothing.
use Rattle.octets.specs.Parts.{put}
use Rattle.octets.specs.Numbers.{octets}
use Rattle.timer.specs.Clock.{timer_octets}
use Rattle.rules.specs.Records.{record_of}
use Rattle.sightings.proofs.record_of.Goals as goal

pub returns : goal.returns
unfolding record_of timer_octets octets put
returns c = rw (c.copy_to.ensures, c.octets_of.ensures, c.put.ensures)
