-- `effects::blocks::block` meets its contract: the octets of the one memory or of the other. Assumes nothing.
use mathlib.Core.Path.{◌≡◌}
use Prim.Native.Nat.{◌+◌, ◌-◌, ◌*◌}
use native.Mathlib.Omega.{arith}
use Rattle.octets.specs.Parts.{part}
use Rattle.rules.specs.Config.{block_size, block_at}
use Rattle.effects.proofs.blocks.block.Goals as goal

pub returns-then-loc : goal.returns-then-loc
unfolding block_at part
returns-then-loc c =
    let k = c.args.k in
    let n : block_size * k + block_size - block_size * k ≡ block_size = omega arith in
    rw (n, c.if-loc.true)

pub returns : goal.returns
unfolding block_at part
returns c =
    let k = c.args.k in
    let n : block_size * k + block_size - block_size * k ≡ block_size = omega arith in
    rw (n, c.if-loc.false)
