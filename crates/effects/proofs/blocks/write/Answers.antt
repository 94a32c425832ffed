-- `effects::blocks::write` meets its contract. Assumes nothing.
use borrow.Author.Rules.{rules}
use Rattle.effects.proofs.Done.{write-names, write_bytes, write_done}
use Rattle.effects.proofs.blocks.write.Goals as goal

pub write_block-requires : goal.write_block-requires
write_block-requires c = search (rules, write-names, write_bytes)

pub returns : goal.returns
returns c = search write_done
