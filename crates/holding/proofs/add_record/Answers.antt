-- `holding::add_record` meets its contract: the entries are lent, one more and back. Assumes nothing.
use lib.Dec.{lit<}
use lib.ListN.{length-take, length-drop}
use native.Mathlib.Omega.{arith}
use Rattle.keeping.proofs.Rows.{sound-size}
use Rattle.holding.proofs.Records.{table-inside, has_room, back-size, added-says}
use Rattle.holding.proofs.add_record.Goals as goal

pub append-requires : goal.append-requires
append-requires c =
    let in-store = table-inside _ c.requires.0 _ _ c.start-at.ensures.0 c.used-n.ensures.0 in
    simp (length-take, length-drop) (omega (arith, has_room _ c.requires.0 c.args.d.number c.args.d.low c.requires.1))

pub put-requires : goal.put-requires
put-requires c =
    omega (arith, back-size _ c.requires.0 _ _ c.start-at.ensures.0 c.used-n.ensures.0 _ _ _ c.append.ensures)

pub returns : goal.returns
returns c =
    rw c.put.ensures
    (added-says c.args.s.now c.requires.0 c.start-at.result c.used-n.result c.start-at.ensures.0 c.used-n.ensures.0 c.args.d.number c.args.d.low
    c.requires.1 c.args.r c.append.new.t c.requires.2 c.append.ensures)

pub start-at-requires : goal.start-at-requires
start-at-requires c = (lit< tt, omega (arith, sound-size _ c.requires.0))

pub used-n-requires : goal.used-n-requires
used-n-requires c = omega (arith, sound-size _ c.requires.0)

pub slice_bounds-append-end : goal.slice_bounds-append-end
slice_bounds-append-end c = omega (arith, table-inside _ c.requires.0 _ _ c.start-at.ensures.0 c.used-n.ensures.0)
