-- `pieces::Shape::width` meets its contract. Assumes nothing.
use native.Mathlib.Omega.{arith}
use Rattle.pieces.specs.Pieces.{width_of}
use Rattle.pieces.proofs.Shape.width.Goals as goal

pub returns : goal.returns
unfolding width_of
returns c = rw (← c.heading.ensures.0, ← c.separator.ensures.0, ← c.ending.ensures.0) (omega arith, omega arith)
