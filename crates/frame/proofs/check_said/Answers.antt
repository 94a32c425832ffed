-- `frame::check_said` meets its contract: the two octets are below 256. Assumes nothing.
use native.Mathlib.Omega.{arith}
use Prim.Native.Nat.{◌-◌}
use mathlib.Core.Path.{refl}
use lib.ListN.{length}
use Rattle.frame.specs.Judged.{check_said}
use Rattle.frame.proofs.check_said.Goals as goal

pub overflow_cast-result : goal.overflow_cast-result
overflow_cast-result c = omega (arith, c.type_inv.frame (length c.args.frame.now - 2))

pub overflow_cast-result-2 : goal.overflow_cast-result-2
overflow_cast-result-2 c = omega (arith, c.type_inv.frame (length c.args.frame.now - 1))

pub overflow_mul-result : goal.overflow_mul-result
overflow_mul-result c = omega (arith, c.type_inv.frame (length c.args.frame.now - 1))

pub overflow_add-result : goal.overflow_add-result
overflow_add-result c =
    omega (
      arith,
      c.type_inv.frame (length c.args.frame.now - 1),
      c.type_inv.frame (length c.args.frame.now - 2),
    )

pub returns : goal.returns
unfolding check_said
returns c = refl
