-- `frame::length_said` meets its contract: in each arm the kind is known, and with it how many octets there are. Assumes nothing.
use native.Mathlib.Omega.{arith}
use Rattle.frame.specs.Judged.{length_said}
use Rattle.frame.proofs.length_said.Goals as goal

pub bounds-frame-0 : goal.bounds-frame-0
bounds-frame-0 c = omega (arith, rw c.in-Standard.is at c.requires)

pub overflow_cast-result : goal.overflow_cast-result
overflow_cast-result c = omega (arith, c.type_inv.frame 0)

pub get16-requires : goal.get16-requires
get16-requires c = omega (arith, rw c.in-Advanced.is at c.requires)

pub returns-in-Standard : goal.returns-in-Standard
unfolding length_said
returns-in-Standard c = rw c.in-Standard.is

pub returns-in-Advanced : goal.returns-in-Advanced
unfolding length_said
returns-in-Advanced c = rw c.in-Advanced.is c.get16.ensures
