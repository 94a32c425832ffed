-- `depot_c::depot_tick` meets its contract: the number of what `depot::tick` answers. Assumes nothing.
use Rattle.depot_c.proofs.Fits.{tick-fits}
use Rattle.depot_c.proofs.depot_tick.Goals as goal

pub answer_code-requires : goal.answer_code-requires
answer_code-requires c = tick-fits _ _ _ _ _ c.tick.ensures
