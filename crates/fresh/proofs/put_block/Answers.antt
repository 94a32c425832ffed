-- `fresh::put_block` meets its contract. Assumes nothing.
use Rattle.rules.specs.Config.{written}
use Rattle.fresh.proofs.put_block.Goals as goal

pub returns : goal.returns
unfolding written
returns c = c.copy_to.ensures
