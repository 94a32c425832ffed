-- `keeping::timer_of` meets its contract. Assumes nothing.
use mathlib.Core.Path.{◌∙◌}
use Rattle.keeping.proofs.RowRead.{timer-read}
use Rattle.keeping.proofs.timer_of.Goals as goal

pub returns : goal.returns
returns c = c.read.ensures ∙ timer-read _ c.requires c.args.d.number c.args.d.low _ c.row_at.ensures.0
