-- `doings::set_mark` meets its contract. Assumes nothing.
use borrow.Author.Rules.{rules}
use Rattle.octets.specs.Parts.{put}
use Rattle.doings.specs.Row.{marked_row}
use Rattle.doings.proofs.set_mark.Goals as goal

pub returns : goal.returns
unfolding marked_row put
returns c = search rules
