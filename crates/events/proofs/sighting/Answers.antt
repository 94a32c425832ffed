-- `events::sighting` meets its contract: refusals 5 and 6 in rising number, then what the desk did. Assumes nothing.
use Prim.Native.Nat.{◌<◌}
use native.Mathlib.Omega.{arith}
use Rattle.frame.specs.declared.Refusal.TheVariants.{NoDesk, OutOfRange}
use Rattle.table.specs.Entries.{desks}
use Rattle.rules.proofs.Refusals.{sighting-desk, sighting-mask, sighting-accepted}
use Rattle.events.proofs.Events.{sighting-refused, sighting-answered}
use Rattle.events.proofs.sighting.Goals as goal
use Rattle.events.proofs.sighting.Goals.{In-Some}

-- the desk is there
low : (c : In-Some) → c.args.desk < desks
low c = omega (arith, c.in-Some.ensures.value, c.in-Some.desk.low)

pub returns-in_default : goal.returns-in_default
returns-in_default c =
    let a = c.args in
    sighting-refused a.desk a.uid a.mask NoDesk _ _ (sighting-desk a.desk a.mask (grind (arith, c.in_default.ensures.valid)))

pub returns-then-mask-eq0 : goal.returns-then-mask-eq0
returns-then-mask-eq0 c =
    let a = c.args in
    sighting-refused a.desk a.uid a.mask OutOfRange _ _ (sighting-mask a.desk a.mask (low (goal.at.returns-then-mask-eq0 c).In-Some) c.if-mask-eq0.true)

pub returns : goal.returns
returns c =
    let a = c.args in
    sighting-answered a.desk a.uid a.mask _ _ _ _ (sighting-accepted a.desk a.mask (low (goal.at.returns c).In-Some) c.if-mask-eq0.false) (rw c.in-Some.ensures.value at c.sight.ensures)
