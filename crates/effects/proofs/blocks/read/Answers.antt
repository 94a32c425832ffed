-- `effects::blocks::read` meets its contract: the named block, where the row has it. Assumes nothing.
use mathlib.Core.Path.{◌≡◌}
use native.Mathlib.Omega.{arith}
use borrow.Author.Rules.{rules}
use lib.ListN.{length}
use Rattle.rules.specs.Config.{block_size}
use Rattle.effects.proofs.Done.{read_names, read-size, read_done}
use Rattle.effects.proofs.blocks.read.Goals as goal

pub copy_to-requires : goal.copy_to-requires
copy_to-requires c =
    let size : length c.named-bytes.result.now ≡ block_size = search read-size in
    omega arith

pub named-bytes-requires : goal.named-bytes-requires
named-bytes-requires c = search (rules, read_names)

pub returns : goal.returns
returns c = search read_done
