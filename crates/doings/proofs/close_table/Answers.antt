-- `doings::close_table` meets its contract. Assumes nothing.
use borrow.Author.Rules.{rules}
use Rattle.octets.specs.Parts.{put}
use Rattle.doings.specs.Row.{due_row, closed_row}
use Rattle.doings.proofs.close_table.Goals as goal

pub returns : goal.returns
unfolding closed_row due_row put
returns c = search rules
