-- `rows::save_block` meets its contract. Assumes nothing.
use borrow.Author.Rules.{rules}
use Rattle.rows.specs.Row.{written_row, saved_row}
use Rattle.rows.proofs.save_block.Goals as goal

pub returns : goal.returns
unfolding written_row saved_row
returns c = search rules
