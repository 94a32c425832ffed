-- `fresh::put_memory` meets its contract. Assumes nothing.
use Prim.Native.Nat.{◌+◌, ◌-◌}
use mathlib.Core.Path.{◌∙◌}
use native.Mathlib.Nat.{add-zero}
use native.Mathlib.Omega.{arith}
use Rattle.octets.proofs.Lent.{put-lent}
use Rattle.rules.specs.Config.{memory_size, defaults}
use Rattle.rules.proofs.Memories.{defaults-legal}
use Rattle.fresh.proofs.put_memory.Goals as goal

pub returns : goal.returns
returns c =
    let at = c.args.at in
    put-lent at (at + memory_size - at) 0 defaults _ c.args.row.now c.put_defaults.ensures (omega arith) (omega (arith, defaults-legal.size))
    ∙ rw add-zero
