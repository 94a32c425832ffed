-- `frame::Way::overhead` meets its contract: the sum is of small numbers. Assumes nothing.
use native.Mathlib.Omega.{arith}
use Rattle.frame.proofs.Bounds.{lead-small, status-small}
use Rattle.frame.proofs.Way.overhead.Goals as goal

pub overflow_add-result : goal.overflow_add-result
overflow_add-result c = omega (arith, lead-small c.args.kind, status-small c.args.self)
