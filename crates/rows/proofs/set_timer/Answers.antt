-- `rows::set_timer` meets its contract. Assumes nothing.
use borrow.Author.Rules.{rules}
use Rattle.rows.specs.Row.{timer_row}
use Rattle.rows.proofs.set_timer.Goals as goal

pub returns : goal.returns
unfolding timer_row
returns c = search rules
