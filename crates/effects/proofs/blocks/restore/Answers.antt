-- `effects::blocks::restore` meets its contract. Assumes nothing.
use borrow.Author.Rules.{rules}
use Rattle.effects.proofs.Done.{restore-names, restore-all-done, restore-one-done}
use Rattle.effects.proofs.blocks.restore.Goals as goal

pub returns-then-all_blocks : goal.returns-then-all_blocks
returns-then-all_blocks c = search restore-all-done

pub restore_block-requires : goal.restore_block-requires
restore_block-requires c = search (rules, restore-names)

pub returns : goal.returns
returns c = search restore-one-done
