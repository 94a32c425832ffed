-- `doings::midnight` meets its contract. Assumes nothing.
use borrow.Author.Rules.{rules}
use Rattle.doings.specs.Row.{midnight_row}
use Rattle.doings.proofs.midnight.Goals as goal

pub returns : goal.returns
unfolding midnight_row
returns c = search rules
