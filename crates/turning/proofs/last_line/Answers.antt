-- `turning::last_line` meets its contract. Assumes nothing.
use native.Mathlib.Omega.{arith}
use Rattle.turning.proofs.Turns.{none_left, one_left}
use Rattle.turning.proofs.last_line.Goals as goal

pub returns-then-line-eq0 : goal.returns-then-line-eq0
returns-then-line-eq0 c = none_left _ _ _ _ _ (omega (arith, c.if-line-eq0.true))

pub returns : goal.returns
returns c =
    one_left _ _ _ _ _ _ _ _ _ (λ e. c.if-line-eq0.false (omega (arith, e))) c.answer.ensures
