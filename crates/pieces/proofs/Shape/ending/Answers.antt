-- `pieces::Shape::ending` meets its contract. Assumes nothing.
use native.Mathlib.Omega.{arith}
use lib.ListN.{length-take}
use Rattle.rules.specs.Line.{ending}
use Rattle.pieces.proofs.Marks.{mark-small, cut}
use Rattle.pieces.proofs.Shape.ending.Goals as goal

pub returns : goal.returns
unfolding ending
returns c = (
  rw (← c.user_len.ensures.0, ← cut 4 c.user_len.result c.args.self.now.block) c.mark_of.ensures,
  rw c.mark_of.ensures (mark-small _ _ (simp length-take (omega (arith, c.user_len.ensures.1)))),
)
