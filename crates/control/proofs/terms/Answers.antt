-- `control::terms` meets its contract. Assumes nothing.
use Rattle.rules.proofs.Controls.{listed}
use Rattle.control.proofs.terms.Goals as goal

pub returns : goal.returns
returns c = listed _ _ _ _ c.requires
