-- `frame::Way::data_at` meets its contract: the sum is of small numbers. Assumes nothing.
use native.Mathlib.Omega.{arith}
use borrow.Author.Rules.{rules}
use Rattle.frame.proofs.Bounds.{lead-small, status-small, data-at-small}
use Rattle.frame.proofs.Way.data_at.Goals as goal

pub overflow_add-result : goal.overflow_add-result
overflow_add-result c = record { fits = omega (arith, lead-small c.args.kind) }

pub overflow_add-result-2 : goal.overflow_add-result-2
overflow_add-result-2 c = record { fits = omega (arith, lead-small c.args.kind, status-small c.args.self) }

pub returns : goal.returns
returns c = (search rules, omega (arith, data-at-small c.args.self c.args.kind))
