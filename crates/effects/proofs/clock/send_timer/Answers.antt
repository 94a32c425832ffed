-- `effects::clock::send_timer` meets its contract: the four octets of the timer, where the row has them. Assumes nothing.
use Rattle.effects.proofs.Done.{send-done}
use Rattle.effects.proofs.clock.send_timer.Goals as goal

pub returns : goal.returns
returns c =
    send-done c.requires.0 c.fits-row c.data_at.ensures.0 c.copy_to.ensures
