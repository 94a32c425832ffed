-- `soundness::clear_pair` meets its contract. Assumes nothing.
use Rattle.soundness.proofs.clear_pair.Goals as goal

pub returns : goal.returns
returns c =
    rw (← c.start.ensures.0, ← c.size.ensures.0, ← c.start-2.ensures.0, ← c.size-2.ensures.0) c.apart.ensures
