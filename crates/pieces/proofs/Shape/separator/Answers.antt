-- `pieces::Shape::separator` meets its contract. Assumes nothing.
use native.Mathlib.Omega.{arith}
use lib.ListN.{length-take}
use Rattle.octets.specs.Parts.{part}
use Rattle.rules.specs.Line.{separator}
use Rattle.pieces.proofs.Marks.{mark-small}
use Rattle.pieces.proofs.Shape.separator.Goals as goal

pub returns : goal.returns
unfolding separator part
returns c =
    (c.mark_of.ensures, rw c.mark_of.ensures (mark-small _ _ (simp length-take (omega arith))))
