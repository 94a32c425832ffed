-- `rows::clear_locks` meets its contract. Assumes nothing.
use borrow.Author.Rules.{rules}
use Rattle.octets.specs.Parts.{put}
use Rattle.rows.specs.Row.{unlocked_row}
use Rattle.rows.proofs.clear_locks.Goals as goal

pub returns : goal.returns
unfolding unlocked_row put
returns c = search rules
