-- `rows::set_login` meets its contract. Assumes nothing.
use Rattle.octets.specs.Parts.{put}
use Rattle.rows.specs.Row.{login_row}
use borrow.Author.Rules.{rules}
use Rattle.rows.proofs.set_login.Goals as goal

pub returns : goal.returns
unfolding login_row put
returns c = search rules
