-- `locks::find` meets its contract: here, or later. Assumes nothing.
use Rattle.std.proofs.Common.{sym, ◌∙◌, arith}
use Rattle.locks.proofs.Lookups.{find-here, find-later, find_none}
use Rattle.locks.proofs.find.Goals as goal

pub returns-then-is_of : goal.returns-then-is_of
returns-then-is_of c =
    let a = c.args in
    sym (c.loop-i.invariant ∙ find-here a.locks.now c.loop-i.i a.uid _ (omega arith) (sym c.is_of.ensures ∙ c.if-is_of.true))

pub loop-i-preserved : goal.loop-i-preserved
loop-i-preserved c =
    let a = c.args in
    c.loop-i.invariant ∙ find-later a.locks.now c.loop-i.i a.uid _ (omega arith) (sym c.is_of.ensures ∙ c.if-is_of.false)

pub returns : goal.returns
returns c =
    let a = c.args in
    sym (c.loop-i.invariant ∙ find_none a.locks.now c.loop-i.i a.uid (omega arith))
