-- `depot_c::told_code` meets its contract. Assumes nothing.
use Rattle.std.proofs.Common.{Ok}
use mathlib.Core.Path.{sym, ap}
use native.Mathlib.Omega.{arith}
use Rattle.events.specs.declared.Answer.{Answer}
use Rattle.depot_c.specs.Coded.{code_of}
use Rattle.depot_c.proofs.told_code.Goals as goal

pub overflow_add-result : goal.overflow_add-result
overflow_add-result c = omega (arith, rw c.in-Reply.is at c.requires)

pub returns-in-Reply : goal.returns-in-Reply
returns-in-Reply c = sym (ap (λ (a : Answer). code_of (Ok a)) c.in-Reply.is)
