-- `effects::blocks::save` meets its contract. Assumes nothing.
use borrow.Author.Rules.{rules}
use Rattle.effects.proofs.Done.{save-names, save-all-done, save-one-done}
use Rattle.effects.proofs.blocks.save.Goals as goal

pub returns-then-all_blocks : goal.returns-then-all_blocks
returns-then-all_blocks c = search save-all-done

pub save_block-requires : goal.save_block-requires
save_block-requires c = search (rules, save-names)

pub returns : goal.returns
returns c = search save-one-done
