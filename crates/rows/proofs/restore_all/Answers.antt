-- `rows::restore_all` meets its contract. Assumes nothing.
use mathlib.Core.Path.{◌∙◌}
use Rattle.rows.specs.Row.{default_row}
use Rattle.rows.proofs.restore_all.Goals as goal

pub returns : goal.returns
unfolding default_row
returns c =
    c.put_memory.ensures ∙ rw c.memory_at.ensures.0
