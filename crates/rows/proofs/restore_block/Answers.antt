-- `rows::restore_block` meets its contract: the memory is lent, and takes the block by value. Assumes nothing.
use Prim.Native.Nat.{◌+◌, ◌-◌, ◌*◌}
use mathlib.Core.Path.{◌∙◌, ap}
use native.Mathlib.Omega.{arith}
use lib.ListN.{length}
use Rattle.octets.proofs.Lent.{put-lent}
use Rattle.rules.specs.Config.{block_size, memory_size, defaults, written}
use Rattle.rules.proofs.Memories.{defaults-legal, length-block}
use Rattle.rows.specs.Row.{written_row}
use Rattle.rows.proofs.restore_block.Goals as goal

pub returns : goal.returns
unfolding written_row written
returns c =
    let at = c.memory_at-at.result in
    let b = c.default_block.ensures in
    put-lent at (at + memory_size - at) (block_size * c.args.k) c.default_block.result _ c.args.row.now c.put_block.ensures
    (omega (arith, c.memory_at-at.ensures.1)) (omega (arith, c.requires, ap length b, length-block defaults defaults-legal c.args.k c.requires))
    ∙ rw (c.memory_at-at.ensures.0, b)
