-- `depot_c::depot_frame` meets its contract: the number of what `depot::frame` answers, which fits since a reply is short. Assumes nothing.
use lib.ListN.{length}
use Rattle.depot_c.proofs.Fits.{frame-fits}
use Rattle.depot_c.proofs.depot_frame.Goals as goal

pub answer_code-requires : goal.answer_code-requires
answer_code-requires c =
    let a = c.args in
    frame-fits a.frame.now a.store.now (length a.out.now) a.out.now _ _ _ c.frame.ensures
