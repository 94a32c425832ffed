-- `seal::write_advanced_lead` meets its contract: one octet, and the two of the length right behind it. Assumes nothing.
use mathlib.Core.Path.{◌∙◌, refl}
use mathlib.Core.List.{[], ◌∷◌}
use lib.ListN.{length-set}
use Rattle.octets.proofs.Puts.{put_one}
use Rattle.octets.proofs.Joins.{put_next}
use Rattle.seal.proofs.write_advanced_lead.Goals as goal

pub shape_of-out : goal.shape_of-out
shape_of-out c = c.put.auto.s ∙ simp length-set

pub returns : goal.returns
returns c = rw (c.put.ensures, ← put_one) (put_next (2 ∷ []) _ _ 1 refl)
