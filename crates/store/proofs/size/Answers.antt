-- `store::size` meets its contract. Assumes nothing.
use mathlib.Core.Path.{refl}
use Rattle.store.proofs.Headers.{size_small}
use Rattle.store.proofs.size.Goals as goal

pub returns : goal.returns
returns c = (refl, size_small c.args.k c.requires)
