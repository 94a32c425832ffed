-- `bodies::put_octet` meets its contract. Assumes nothing.
use mathlib.Core.Path.{refl}
use Rattle.octets.specs.Parts.{put}
use Rattle.bodies.proofs.put_octet.Goals as goal

pub returns : goal.returns
unfolding put
returns c = refl
