-- `bodies::put_timer` meets its contract. Assumes nothing.
use mathlib.Core.Path.{◌∙◌}
use native.Mathlib.Omega.{arith}
use lib.ListN.{length-set}
use Rattle.octets.specs.Parts.{put}
use Rattle.bodies.proofs.put_timer.Goals as goal

pub bounds-out-1 : goal.bounds-out-1
bounds-out-1 c = simp length-set (omega (arith, c.requires.3))

pub shape_of-out : goal.shape_of-out
shape_of-out c = c.put.auto.s ∙ simp length-set

pub returns : goal.returns
unfolding put
returns c = c.put.ensures
