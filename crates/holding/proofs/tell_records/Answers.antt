-- `holding::tell_records` meets its contract: the count, and the records behind it. Assumes nothing.
use lib.Dec.{lit<}
use lib.ListN.{length, length-take, length-drop}
use Rattle.octets.proofs.Puts.{put-length}
use mathlib.Core.Path.{◌≡◌, ap, ◌∙◌}
use native.Mathlib.Omega.{arith}
use Rattle.keeping.proofs.Rows.{sound-size}
use Rattle.holding.proofs.Records.{table-inside, table_fits, counted_back}
use Rattle.holding.proofs.tell_records.Goals as goal
use Rattle.holding.proofs.tell_records.Goals.{After-put}

same : (c : After-put) → length c.put.new.s ≡ length c.args.out.now
same c = ap length c.put.ensures ∙ put-length _ _ _

pub gather-requires : goal.gather-requires
gather-requires c =
    (table_fits _ c.requires.0 _ _ c.start-from.ensures.0 c.used-used.ensures.0, simp (length-take, length-drop) (omega (arith, same (goal.at.gather-requires c).After-put)))

pub returns : goal.returns
returns c =
    counted_back c.args.s.now c.requires.0 c.start-from.result c.used-used.result c.start-from.ensures.0 c.used-used.ensures.0 c.args.d.number c.args.d.low
    c.args.n c.args.at c.args.out.now c.put.new.s _ c.requires.1 c.requires.2 c.put.ensures c.gather.ensures.out_after

pub start-from-requires : goal.start-from-requires
start-from-requires c = (lit< tt, omega (arith, sound-size _ c.requires.0))

pub used-used-requires : goal.used-used-requires
used-used-requires c = omega (arith, sound-size _ c.requires.0)

pub slice_bounds-gather-end : goal.slice_bounds-gather-end
slice_bounds-gather-end c = omega (arith, table-inside _ c.requires.0 _ _ c.start-from.ensures.0 c.used-used.ensures.0)
