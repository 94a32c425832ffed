-- `doings::set_due` meets its contract. Assumes nothing.
use borrow.Author.Rules.{rules}
use Rattle.octets.specs.Parts.{put}
use Rattle.doings.specs.Row.{due_row}
use Rattle.doings.proofs.set_due.Goals as goal

pub returns : goal.returns
unfolding due_row put
returns c = search rules
