-- `doings::tick` meets its contract. Assumes nothing.
use mathlib.Core.Path.{ap, ◌∙◌}
use Rattle.doings.specs.Row.{stepped_row, ticked_row}
use Rattle.doings.proofs.tick.Goals as goal

pub returns : goal.returns
unfolding ticked_row
returns c =
    c.tick_timer.ensures ∙ ap stepped_row c.tick_locks.ensures
