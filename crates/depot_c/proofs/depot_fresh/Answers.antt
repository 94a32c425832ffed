-- `depot_c::depot_fresh` meets its contract: the number of what `depot::fresh` answers. Assumes nothing.
use Rattle.depot_c.proofs.Fits.{fresh-fits}
use Rattle.depot_c.proofs.depot_fresh.Goals as goal

pub answer_code-requires : goal.answer_code-requires
answer_code-requires c = fresh-fits _ _ _ c.fresh.ensures
