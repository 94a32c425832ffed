-- `reader::count_right` meets its contract: what the check finds alone too, said such that an edit falls at the width. Assumes nothing.
use native.Mathlib.Omega.{arith}
use Rattle.reader.proofs.Judging.{count-said}
use Rattle.reader.proofs.count_right.Goals as goal

pub returns-then-sent-ge2 : goal.returns-then-sent-ge2
returns-then-sent-ge2 c = count-said _ _ (omega arith) (λ z. omega arith) _ c.get16.ensures
