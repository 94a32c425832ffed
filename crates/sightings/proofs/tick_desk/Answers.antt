-- `sightings::tick_desk` meets its contract. Assumes nothing.
use Rattle.rules.proofs.Facts.{desk-test}
use Rattle.rules.proofs.Legality.{ticked-legal}
use Rattle.keeping.proofs.Rows.{kept-legal}
use Rattle.sightings.proofs.tick_desk.Goals as goal

pub act-requires : goal.act-requires
act-requires c =
    (c.requires, desk-test _ (ticked-legal _ (kept-legal c.args.s.now c.requires c.args.d.number c.args.d.low)))
