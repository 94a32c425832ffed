-- `fresh::put_defaults` meets its contract. After k turns the first k blocks are written. Assumes nothing.
use Prim.Native.Nat.{◌+◌, ◌*◌}
use mathlib.Core.Path.{◌≡◌, refl, ap, ◌∙◌}
use native.Mathlib.Omega.{arith}
use lib.ListN.{length, take}
use Rattle.octets.specs.Parts.{put}
use Rattle.octets.proofs.Puts.{put-length}
use Rattle.rules.specs.Config.{block_size, defaults}
use Rattle.rules.proofs.Memories.{defaults-legal}
use Rattle.fresh.proofs.Blocks.{written_next, written_all}
use Rattle.fresh.proofs.put_defaults.Goals as goal

pub loop-k-init : goal.loop-k-init
unfolding put
loop-k-init c = (refl, refl)

pub loop-k-preserved : goal.loop-k-preserved
loop-k-preserved c =
    let m = c.args.memory.now in
    let k = c.loop-k.k in
    let e : c.put_block.new.memory ≡ put 0 (take (block_size * (k + 1)) defaults) m =
    c.put_block.ensures
    ∙ rw (c.default_block.ensures, c.loop-k.invariant.1) (written_next k defaults m (omega (arith, defaults-legal.size)))
    in
    (ap length e ∙ put-length _ _ _, e)

pub returns : goal.returns
returns c = c.loop-k.invariant.1 ∙ written_all c.loop-k.k _ (omega arith)
