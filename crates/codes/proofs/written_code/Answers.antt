-- `codes::written_code` meets its contract. Assumes nothing.
use mathlib.Core.Path.{sym, ap}
use native.Mathlib.Omega.{arith}
use Rattle.codes.specs.Codes.{written_code}
use Rattle.codes.proofs.written_code.Goals as goal

pub overflow_add-result : goal.overflow_add-result
overflow_add-result c = omega (arith, rw c.in-Ok.is at c.requires)

pub returns-in-Ok : goal.returns-in-Ok
returns-in-Ok c = sym (ap written_code c.in-Ok.is)
