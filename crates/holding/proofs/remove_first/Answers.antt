-- `holding::remove_first` meets its contract: the entries are lent, fewer and back. Assumes nothing.
use lib.Dec.{lit<}
use native.Mathlib.Omega.{arith}
use Rattle.keeping.proofs.Rows.{sound-size}
use Rattle.holding.proofs.Records.{table-inside, table_fits, back-size, removed-says}
use Rattle.holding.proofs.remove_first.Goals as goal

pub put-requires : goal.put-requires
put-requires c =
    omega (arith, back-size _ c.requires.0 _ _ c.start-at.ensures.0 c.used-n.ensures.0 _ _ _ c.remove-left.ensures.t_after)

pub returns : goal.returns
returns c =
    rw c.put.ensures
    (removed-says c.args.s.now c.requires.0 c.start-at.result c.used-n.result c.start-at.ensures.0 c.used-n.ensures.0 c.args.d.number c.args.d.low c.args.k
    c.remove-left.result c.remove-left.new.t c.remove-left.ensures.value c.remove-left.ensures.t_after c.requires.1)

pub start-at-requires : goal.start-at-requires
start-at-requires c = (lit< tt, omega (arith, sound-size _ c.requires.0))

pub used-n-requires : goal.used-n-requires
used-n-requires c = omega (arith, sound-size _ c.requires.0)

pub slice_bounds-remove-end : goal.slice_bounds-remove-end
slice_bounds-remove-end c = omega (arith, table-inside _ c.requires.0 _ _ c.start-at.ensures.0 c.used-n.ensures.0)

pub remove-left-requires : goal.remove-left-requires
remove-left-requires c = table_fits _ c.requires.0 _ _ c.start-at.ensures.0 c.used-n.ensures.0
