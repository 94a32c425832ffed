-- `depot_c::depot_sighting` meets its contract: the number of what `depot::sighting` answers to the octet of the mask. Assumes nothing.
use Rattle.depot_c.proofs.Fits.{sighting-fits}
use Rattle.depot_c.proofs.depot_sighting.Goals as goal

pub answer_code-requires : goal.answer_code-requires
answer_code-requires c = sighting-fits _ _ _ _ _ _ _ _ c.sighting.ensures

pub returns : goal.returns
returns c =
    record { answer = c.sighting.result; code = c.answer_code.ensures; called = rw (← c.octet_of.ensures) c.sighting.ensures }
