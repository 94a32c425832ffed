-- `rows::write_block` meets its contract. Assumes nothing.
use mathlib.Core.Path.{◌∙◌}
use Rattle.rows.specs.Row.{written_row}
use Rattle.rows.proofs.write_block.Goals as goal

pub returns : goal.returns
unfolding written_row
returns c =
    c.copy_to.ensures ∙ rw c.memory_at-at.ensures.0
