-- `sightings::unlocked` meets its contract: lost, or recorded. Assumes nothing.
use mathlib.Core.Path.{ap, ◌∙◌}
use native.Mathlib.Omega.{arith}
use Rattle.timer.specs.declared.Timer.{Timer}
use Rattle.rules.specs.Records.{record_of}
use Rattle.sightings.proofs.Sights.{Recording, mark-legal, lost, recording}
use Rattle.sightings.proofs.unlocked.Goals as goal
use Rattle.sightings.proofs.unlocked.Goals.{After-record_of}

-- the record that was made is that of this sighting
new : (c : After-record_of)
    → Recording c.args.d.number c.args.uid c.args.mask c.record_of.result c.args.s.now
new c =
    recording c.args.s.now c.requires.0 c.args.d.number c.args.d.low c.args.uid c.args.mask c.ranges.uid.fits c.ranges.mask.fits c.requires.1
    (omega (arith, c.if-held.false, c.held.ensures.0)) c.record_of.result
    (c.record_of.ensures ∙ ap (λ (t : Timer). record_of c.args.uid t c.args.mask) c.timer_of-t.ensures)

pub act-requires : goal.act-requires
act-requires c = (
  c.requires.0,
  mark-legal c.args.s.now c.requires.0 c.args.d.number c.args.d.low c.args.uid c.args.mask c.ranges.uid.fits c.ranges.mask.fits c.requires.1
      (omega (arith, c.if-held.true, c.held.ensures.0)),
)

pub returns-then-held : goal.returns-then-held
returns-then-held c =
    lost c.args.s.now c.requires.0 c.args.d.number c.args.d.low c.args.uid c.args.mask c.ranges.uid.fits c.ranges.mask.fits c.requires.1
    (omega (arith, c.if-held.true, c.held.ensures.0)) _ c.act.ensures

pub add_record-requires : goal.add_record-requires
add_record-requires c =
    (c.requires.0, omega (arith, c.if-held.false, c.held.ensures.0), (new c).legal)

pub act-requires-2 : goal.act-requires-2
act-requires-2 c =
    (c.add_record.ensures.still, (new (goal.at.act-requires-2 c).After-record_of).locks _ c.add_record.ensures)

pub returns : goal.returns
returns c =
    (new (goal.at.returns c).After-record_of).ends _ _ c.add_record.ensures c.act-2.ensures
