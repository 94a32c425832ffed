-- `removals::clear` meets its contract. Assumes nothing.
use Rattle.keeping.proofs.Rows.{kept-legal}
use Rattle.removals.proofs.Removals.{clear-empties, restart-empties, cleared}
use Rattle.removals.proofs.clear.Goals as goal

pub empty-requires : goal.empty-requires
empty-requires c = let legal = kept-legal _ c.requires _ c.args.d.low in (c.requires, search (clear-empties, restart-empties))

pub returns : goal.returns
returns c = cleared _ c.requires _ c.args.d.low _ _ c.empty.ensures
