-- `listing::hear` meets its contract: a call takes some octets more, and no more than there are, and what it wrote lies in the output.
-- Assumes nothing.
use Rattle.std.proofs.Common.{◌<◌, length, refl, arith, rules, length-take, length-drop}
use Rattle.taking.proofs.Bounds.{part-bounds}
use Rattle.listing.proofs.hear.Goals as goal

pub print-requires : goal.print-requires
print-requires g c = (part-bounds _ _ _ _ refl c.take_part-p.ensures).within

pub slice_bounds-rest-count : goal.slice_bounds-rest-count
slice_bounds-rest-count g c = (part-bounds _ _ _ _ refl c.take_part-p.ensures).most

pub slice_bounds-rest-start : goal.slice_bounds-rest-start
slice_bounds-rest-start g c = (part-bounds _ _ _ _ refl c.take_part-p.ensures).most

pub loop-rest-smaller : goal.loop-rest-smaller
loop-rest-smaller g c =
    let b = part-bounds _ _ _ _ refl c.take_part-p.ensures in
    let left : 0 < length c.loop-rest.rest.now = search rules in
    simp (length-take, length-drop) (omega (arith, b.most, b.some left))
