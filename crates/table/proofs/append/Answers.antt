-- `table::append` meets its contract. Assumes nothing.
use mathlib.Core.Path.{◌∙◌}
use native.Mathlib.Numerals.{add-one}
use native.Mathlib.Omega.{arith}
use lib.ListN.{length-set}
use Rattle.octets.specs.Parts.{put}
use Rattle.table.proofs.append.Goals as goal

pub copy_to-requires : goal.copy_to-requires
copy_to-requires c = simp length-set (omega arith)

pub shape_of-t : goal.shape_of-t
shape_of-t c = simp length-set at c.copy_to.auto.s

pub returns : goal.returns
unfolding put
returns c = c.copy_to.ensures ∙ rw add-one
