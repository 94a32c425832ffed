-- `feeding::start` meets its contract. Assumes nothing.
use mathlib.Core.Path.{refl}
use Rattle.feeding.proofs.Feeding.{fed-none}
use Rattle.feeding.proofs.start.Goals as goal

pub returns : goal.returns
returns c = record { state-is = refl; fed = fed-none }
