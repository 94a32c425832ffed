-- `requests::terms_of` meets its contract. Assumes nothing.
use mathlib.Core.Path.{ap, ◌∙◌}
use Rattle.rules.specs.Control.{terms_of}
use Rattle.requests.proofs.terms_of.Goals as goal

pub returns : goal.returns
returns c = c.terms_of.ensures ∙ ap terms_of c.command_of.ensures
