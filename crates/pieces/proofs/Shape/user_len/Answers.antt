-- `pieces::Shape::user_len` meets its contract. Assumes nothing.
use native.Mathlib.Omega.{arith}
use Rattle.pieces.proofs.Widths.{nibbles}
use Rattle.pieces.proofs.Shape.user_len.Goals as goal

pub returns : goal.returns
returns c = (omega arith, omega (arith, (nibbles _ c.args.self.now.legal).1))
