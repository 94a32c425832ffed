-- `effects::blocks::named` meets its contract. Assumes nothing.
use borrow.Author.Rules.{rules}
use Rattle.octets.specs.Parts.{part}
use Rattle.store.specs.Rows.{field}
use Rattle.effects.proofs.blocks.named.Goals as goal

pub returns : goal.returns
unfolding field part
returns c = search rules
