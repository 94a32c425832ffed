-- `taking::finish` meets its contract. Assumes nothing.
use borrow.Author.Rules.{rules}
use Rattle.taking.proofs.finish.Goals as goal

pub returns : goal.returns
returns c = record { sized = record { held-size = search rules; reply-size = search rules; out-size = search rules }; ends = c.last_line.ensures }
