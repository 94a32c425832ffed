-- `lines::line` meets its contract. Assumes nothing.
use native.Mathlib.Omega.{arith}
use Rattle.std.proofs.Common.{rules, sym}
use Rattle.pieces.proofs.Widths.{line-length}
use Rattle.lines.proofs.Outcomes.{illegal, no_room_lem, done}
use Rattle.lines.proofs.line.Goals as goal

pub returns-in_default : goal.returns-in_default
returns-in_default c = illegal _ _ _ (sym c.in_default.ensures.legal)

pub returns-then-out-width : goal.returns-then-out-width
returns-then-out-width c =
    let a = c.args in
    rw (← c.in-Some.ensures.same) (no_room_lem _ _ _ c.in-Some.shape.legal (omega (arith, line-length c.in-Some.shape.block a.sighted (search rules))))

pub returns : goal.returns
returns c =
    let a = c.args in
    let l = line-length c.in-Some.shape.block a.sighted (search rules) in
    rw (← c.in-Some.ensures.same) (done _ _ _ _ _ c.in-Some.shape.legal (omega (arith, l)) (omega (arith, l)) c.put_line.ensures.1)
