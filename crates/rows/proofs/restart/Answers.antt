-- `rows::restart` meets its contract. Assumes nothing.
use mathlib.Core.Path.{ap, ◌∙◌}
use mathlib.Core.Bool.{false}
use Rattle.rows.specs.Row.{login_row, unlocked_row, loaded_row, valid_row, restarted_row}
use Rattle.rows.proofs.restart.Goals as goal

pub returns : goal.returns
unfolding loaded_row valid_row restarted_row
returns c =
    c.clear_locks.ensures ∙ ap unlocked_row (c.set_login.ensures ∙ ap (login_row false) (c.move_within-2.ensures ∙ ap valid_row c.move_within.ensures))
