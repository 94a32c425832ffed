-- `typed::timer_in` meets its contract. Assumes nothing.
use Rattle.typed.specs.Typed.{timer_told}
use Rattle.typed.proofs.Telling.{other_length_lem, timer-told}
use Rattle.typed.proofs.timer_in.Goals as goal

pub returns-then-sent-ne4 : goal.returns-then-sent-ne4
unfolding timer_told
returns-then-sent-ne4 c = rw (other_length_lem 4 _ c.if-sent-ne4.true)

pub returns : goal.returns
returns c = timer-told _ _ c.if-sent-ne4.false c.read.ensures
