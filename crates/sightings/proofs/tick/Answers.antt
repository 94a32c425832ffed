-- `sightings::tick` meets its contract: after d turns the first d desks are ticked. Assumes nothing.
use mathlib.Core.Path.{sym, ◌∙◌}
use native.Mathlib.Omega.{arith}
use Rattle.keeping.proofs.Rows.{sound-size}
use Rattle.sightings.proofs.Ticks.{ticked-none, ticked-more, ticked-all}
use Rattle.sightings.proofs.tick.Goals as goal

pub loop-d-init : goal.loop-d-init
loop-d-init c = ticked-none _ c.requires

pub invariant_of-tick_desk : goal.invariant_of-tick_desk
invariant_of-tick_desk c = omega arith

pub loop-d-preserved : goal.loop-d-preserved
loop-d-preserved c =
    ticked-more _ _ _ _ (omega arith) c.loop-d.invariant c.tick_desk.ensures

pub shape_of-s : goal.shape_of-s
shape_of-s c = sound-size _ c.loop-d.invariant.still ∙ sym (sound-size _ c.requires)

pub returns : goal.returns
returns c = ticked-all _ _ _ (omega arith) c.loop-d.invariant
