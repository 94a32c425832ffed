-- `removals::system_reset` meets its contract. Assumes nothing.
use Rattle.keeping.proofs.Rows.{kept-legal}
use Rattle.removals.proofs.Removals.{clear-empties, restart-empties, reset}
use Rattle.removals.proofs.system_reset.Goals as goal

pub empty-requires : goal.empty-requires
empty-requires c = let legal = kept-legal _ c.requires _ c.args.d.low in (c.requires, search (clear-empties, restart-empties))

pub returns : goal.returns
returns c = reset _ c.requires _ c.args.d.low _ _ c.empty.ensures
