-- `doings::clear` meets its contract. Assumes nothing.
use mathlib.Core.Path.{ap, ◌∙◌}
use Rattle.rows.specs.Row.{unlocked_row}
use Rattle.doings.specs.Row.{cleared_row}
use Rattle.doings.proofs.clear.Goals as goal

pub returns : goal.returns
unfolding cleared_row
returns c =
    c.clear_locks.ensures ∙ ap unlocked_row c.close_table.ensures
