-- `bodies::put_block` meets its contract. Assumes nothing.
use mathlib.Core.Path.{◌≡◌, ◌∙◌}
use native.Mathlib.Omega.{arith}
use lib.ListN.{length, length-set}
use Rattle.rules.specs.Config.{block_size}
use Rattle.octets.specs.Parts.{put}
use borrow.Author.Rules.{rules}
use Rattle.bodies.proofs.put_block.Goals as goal

pub copy_to-requires : goal.copy_to-requires
copy_to-requires c =
    let size : length c.args.bytes ≡ block_size = search rules in
    simp length-set (omega (arith, c.requires.1))

pub shape_of-out : goal.shape_of-out
shape_of-out c = c.copy_to.auto.s ∙ simp length-set

pub returns : goal.returns
unfolding put
returns c = c.copy_to.ensures
