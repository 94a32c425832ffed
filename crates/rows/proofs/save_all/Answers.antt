-- `rows::save_all` meets its contract. Assumes nothing.
use borrow.Author.Rules.{rules}
use Rattle.rows.specs.Row.{all_saved_row}
use Rattle.rows.proofs.save_all.Goals as goal

pub returns : goal.returns
unfolding all_saved_row
returns c = search rules
