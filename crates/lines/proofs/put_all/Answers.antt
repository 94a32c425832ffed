-- `lines::put_all` meets its contract: there is room for all lines, or none is written. Assumes nothing.
use Prim.Native.Nat.{◌*◌, ◌≤◌}
use mathlib.Core.Path.{sym, ◌∙◌}
use lib.ListN.{length}
use Rattle.pieces.specs.Pieces.{width_of}
use Rattle.lines.proofs.Turns.{room-short, room-enough, all-length}
use Rattle.lines.proofs.Outcomes.{all-no-room, all_done}
use Rattle.lines.proofs.put_all.Goals as goal
use Rattle.lines.proofs.put_all.Goals.{Else-out-width}

pub returns-then-out-width : goal.returns-then-out-width
returns-then-out-width c =
    let w = c.width in
    all-no-room _ _ _ c.args.shape.now.legal c.requires.0
    (rw (all-length c.args.shape.now.block c.args.sent.now c.args.m c.requires.1, ← w.ensures.0) (room-short _ _ _ w.ensures.1 c.if-out-width.true))

-- all lines fit
fits : (c : Else-out-width) → let a = c.args in width_of a.shape.now.block * a.m ≤ length a.out.now
fits c = let w = c.width in rw (← w.ensures.0) (room-enough _ _ _ w.ensures.1 c.if-out-width.false)

pub put_lines-requires : goal.put_lines-requires
put_lines-requires c = (c.requires.1, fits (goal.at.put_lines-requires c).Else-out-width)

pub returns : goal.returns
returns c =
    let l = all-length c.args.shape.now.block c.args.sent.now c.args.m c.requires.1 in
    all_done _ _ _ c.args.shape.now.legal c.requires.0 _ _ (rw l (fits (goal.at.returns c).Else-out-width)) (c.put_lines.ensures.0 ∙ sym l) c.put_lines.ensures.1
