-- `pieces::Shape::heading` meets its contract. Assumes nothing.
use Prim.Native.Nat.{◌/◌}
use native.Mathlib.Omega.{arith}
use lib.ListN.{get_or, length-take}
use Rattle.rules.specs.Line.{heading}
use Rattle.pieces.proofs.Widths.{nibbles}
use Rattle.pieces.proofs.Marks.{cut}
use Rattle.pieces.proofs.Shape.heading.Goals as goal

pub slice_bounds-result-end : goal.slice_bounds-result-end
slice_bounds-result-end c = omega (arith, (nibbles _ c.args.self.now.legal).0)

pub returns : goal.returns
unfolding heading
returns c =
    let s = c.args.self.now.block in
    (cut 8 (get_or s 13 0 / 16) s, simp length-take (omega (arith, (nibbles _ c.args.self.now.legal).0)))
