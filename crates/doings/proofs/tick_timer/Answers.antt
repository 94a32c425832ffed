-- `doings::tick_timer` meets its contract. Assumes nothing.
use mathlib.Core.Path.{◌∙◌}
use Rattle.doings.specs.Row.{stepped_row}
use Rattle.doings.proofs.tick_timer.Goals as goal

pub returns : goal.returns
unfolding stepped_row
returns c =
    c.set_timer.ensures ∙ rw (c.octets_of.ensures, c.tick.ensures, c.read-t.ensures)
