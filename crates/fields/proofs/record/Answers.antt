-- `fields::record` meets its contract: not beyond the last, the room, then what was told. Assumes nothing.
use Prim.Native.Nat.{◌<◌}
use native.Mathlib.Omega.{arith}
use lib.ListN.{length}
use Rattle.octets.specs.Tests.{first}
use Rattle.rules.specs.Records.{records_for}
use Rattle.typed.specs.Typed.{count_refusals, sighting_at, record_told}
use Rattle.fields.specs.Fields.{record_fields}
use Rattle.fields.proofs.Told.{beyond, within, within-told, turned}
use Rattle.fields.proofs.record.Goals as goal

pub returns-then-i-records_for : goal.returns-then-i-records_for
returns-then-i-records_for c =
    let a = c.args in
    beyond a.sent.now a.i (record_fields (sighting_at a.sent.now a.i)) a.out.now (omega (arith, c.records_for.ensures, c.if-i-records_for.true))

pub returns : goal.returns
unfolding record_told
returns c =
    let s = c.args.sent.now in
    let i = c.args.i in
    let here : i < records_for (length s) = omega (arith, c.records_for.ensures, c.if-i-records_for.false) in
    rw (within s i s c.args.out.now here)
    (c.put.ensures (count_refusals s) (record_fields (sighting_at s i))
    (turned record_fields (first (count_refusals s)) (sighting_at s i) _ _ c.map.ensures.cases (rw (within-told s i here) at c.record_in.ensures)))
