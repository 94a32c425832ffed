-- `octets::same` meets its contract. Assumes nothing.
use Rattle.std.proofs.Common.{ap, ◌∙◌}
use Rattle.octets.specs.Parts.{alike}
use Rattle.octets.proofs.Alike.{alike_is}
use Rattle.octets.proofs.Puts.{part_sliced}
use Rattle.octets.proofs.same.Goals as goal

pub returns : goal.returns
returns c = c.eq.ensures ∙ alike_is _ _ ∙ ap (λ x. alike x c.args.src.now) (part_sliced _ _ _)
