-- `doings::restart_all` meets its contract. Assumes nothing.
use mathlib.Core.Path.{ap, ◌∙◌}
use Rattle.doings.specs.Row.{closed_row, midnight_row, system_row}
use Rattle.doings.proofs.restart_all.Goals as goal

pub returns : goal.returns
unfolding system_row
returns c =
    c.midnight.ensures ∙ ap midnight_row (c.close_table.ensures ∙ ap (closed_row 0) c.restart.ensures)
