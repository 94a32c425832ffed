-- `removals::empty` meets its contract. Assumes nothing.
use Rattle.removals.proofs.Removals.{bare-legal, emptied}
use Rattle.removals.proofs.empty.Goals as goal

pub remove_first-requires : goal.remove_first-requires
remove_first-requires c =
    (c.act.ensures.still, bare-legal _ c.requires.0 _ c.args.d.low _ c.requires.1 _ c.act.ensures)

pub returns : goal.returns
returns c =
    emptied _ c.requires.0 _ c.args.d.low _ c.requires.1 _ _ _ c.plain.ensures c.act.ensures c.remove_first.ensures
