-- `host_c::read_code` meets its contract. Assumes nothing.
use mathlib.Core.Path.{sym, ap}
use Rattle.frame.specs.Finding.{verdict_of}
use Rattle.std.specs.Prelude.{Result}
use Rattle.frame.specs.declared.Refusal.{Refusal}
use Rattle.reader.specs.declared.Told.{Told}
use Rattle.host_c.specs.Coded.{read_code}
use native.Mathlib.Omega.{arith}
use Rattle.host_c.proofs.read_code.Goals as goal

pub overflow_mul-result-in-Ok : goal.overflow_mul-result-in-Ok
overflow_mul-result-in-Ok c = omega (arith, rw c.in-Ok.is at c.requires)

pub overflow_add-result-in-Ok : goal.overflow_add-result-in-Ok
overflow_add-result-in-Ok c = omega (arith, rw c.in-Ok.is at c.requires)

pub overflow_add-result-in-Ok-2 : goal.overflow_add-result-in-Ok-2
overflow_add-result-in-Ok-2 c = omega (arith, rw c.in-Ok.is at c.requires)

pub returns-in-Ok : goal.returns-in-Ok
returns-in-Ok c = sym (ap (λ (r : Result Told Refusal). read_code (verdict_of r)) c.in-Ok.is)
