-- `table::census` meets its contract: after i turns the first i entries are counted. Assumes nothing.
use Rattle.std.proofs.Common.{◌≡◌, refl, add-one, arith}
use lib.ListN.{length-set}
use Rattle.octets.specs.Parts.{rows}
use Rattle.octets.proofs.Rows.{rows_snoc, rows-length}
use Rattle.table.specs.Entries.{width, desks, entries, entry_at}
use Rattle.table.proofs.Desks.{records_of-length}
use Rattle.table.proofs.Owners.{owners_below-past}
use Rattle.table.proofs.Tallies.{tallied-start, tallied-step}
use Rattle.table.proofs.census.Goals as goal

pub loop-i-init : goal.loop-i-init
unfolding rows
loop-i-init c = (tallied-start, refl)

pub returns-then-d-ge-DESKS : goal.returns-then-d-ge-DESKS
returns-then-d-ge-DESKS c =
    let s = c.args in
    owners_below-past desks s.n c.loop-i.i s.t.now (omega arith) (omega (arith, c.owner_at-d.ensures))

pub overflow_add-counts : goal.overflow_add-counts
overflow_add-counts c =
    let l = c.loop-i in
    let t = c.args.t.now in
    let d = c.owner_at-d.result in
    omega (arith, l.invariant.0.1 d (omega arith), records_of-length d (entries l.i t), rows-length l.i width t)

pub loop-i-preserved : goal.loop-i-preserved
loop-i-preserved c =
    let l = c.loop-i in
    let t = c.args.t.now in (
      rw (add-one l.i, rows_snoc)
          (tallied-step (entries l.i t) l.counts (entry_at l.i t) c.owner_at-d.result _ l.invariant.0 c.owner_at-d.ensures (omega arith) (omega arith) (omega arith)),
      simp length-set l.invariant.1,
    )

pub returns : goal.returns
returns c =
    let past : c.loop-i.i ≡ c.args.n = omega arith in
    rw (← past) c.loop-i.invariant.0
