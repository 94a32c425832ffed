-- `listing::list` meets its contract: what the end wrote lies in the output. Assumes nothing.
use Rattle.taking.proofs.Bounds.{finish-bounds}
use Rattle.listing.proofs.list.Goals as goal

pub print-requires : goal.print-requires
print-requires g c = finish-bounds _ _ _ _ _ _ _ _ _ c.finish-n.ensures
