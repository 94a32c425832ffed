-- `fresh::default_block` meets its contract. Assumes nothing.
use Rattle.rules.specs.Config.{blank, default_blocks}
use Rattle.fresh.proofs.Blocks.{default-at}
use borrow.Author.Rules.{rules}
use Rattle.fresh.proofs.default_block.Goals as goal

pub returns : goal.returns
unfolding default_blocks blank
returns c = default-at c.args.k (search rules)
