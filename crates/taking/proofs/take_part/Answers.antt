-- `taking::take_part` meets its contract. Assumes nothing.
use borrow.Author.Rules.{rules}
use Rattle.taking.proofs.take_part.Goals as goal

pub returns : goal.returns
returns c = record { sized = record { held-size = search rules; reply-size = search rules; out-size = search rules }; took = c.take_all.ensures }
