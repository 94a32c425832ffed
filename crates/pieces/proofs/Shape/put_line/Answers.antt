-- `pieces::Shape::put_line` meets its contract: the pieces in their order, each right behind the one before. Assumes nothing.
use mathlib.Core.Path.{ap}
use native.Mathlib.Omega.{arith}
use lib.ListN.{length, length-take}
use Rattle.octets.specs.Parts.{part}
use Rattle.rules.specs.Line.{line}
use Rattle.pieces.proofs.Widths.{pieces-length}
use Rattle.pieces.proofs.Whole.{five-puts}
use Rattle.pieces.proofs.Shape.put_line.Goals as goal

pub put_raw-uid-requires : goal.put_raw-uid-requires
put_raw-uid-requires c = omega (arith, ap length c.heading.ensures.0, pieces-length c.args.self.now.block c.args.sighted.now c.requires.0)

pub put_shown-sep-requires : goal.put_shown-sep-requires
unfolding part
put_shown-sep-requires c = omega (arith, ap length c.heading.ensures.0, pieces-length c.args.self.now.block c.args.sighted.now c.requires.0)

pub put_raw-timer-requires : goal.put_raw-timer-requires
unfolding part
put_raw-timer-requires c =
    omega (arith, ap length c.heading.ensures.0, ap length c.separator.ensures.0, pieces-length c.args.self.now.block c.args.sighted.now c.requires.0)

pub put_shown-end-requires : goal.put_shown-end-requires
unfolding part
put_shown-end-requires c =
    omega (arith, ap length c.heading.ensures.0, ap length c.separator.ensures.0, pieces-length c.args.self.now.block c.args.sighted.now c.requires.0)

pub put_raw-requires : goal.put_raw-requires
unfolding part
put_raw-requires c =
    omega (arith, ap length c.heading.ensures.0, ap length c.separator.ensures.0, ap length c.ending.ensures.0, pieces-length c.args.self.now.block c.args.sighted.now c.requires.0)

pub returns : goal.returns
unfolding line part
returns c = (
  omega (arith, ap length c.heading.ensures.0, ap length c.separator.ensures.0, ap length c.ending.ensures.0, pieces-length c.args.self.now.block c.args.sighted.now c.requires.0),
  rw (← c.heading.ensures.0, ← c.separator.ensures.0, ← c.ending.ensures.0)
      (five-puts _ _ _ _ _ _ _ _ _ _ _ _ _ _ _ c.put_raw-uid.ensures.1 c.put_raw-uid.ensures.0 c.put_shown-sep.ensures.1 c.put_shown-sep.ensures.0
      c.put_raw-timer.ensures.1 c.put_raw-timer.ensures.0 c.put_shown-end.ensures.1 c.put_shown-end.ensures.0 c.put_raw.ensures.1),
)

pub slice_bounds-put_shown-end : goal.slice_bounds-put_shown-end
slice_bounds-put_shown-end c = simp length-take (omega arith)
