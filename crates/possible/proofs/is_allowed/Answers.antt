-- `possible::is_allowed` meets its contract. Assumes nothing.
use borrow.Author.Tests.{ltb-true}
use Rattle.requests.proofs.Values.{holds_as}
use Rattle.possible.proofs.is_allowed.Goals as goal

pub overflow_cast-adr : goal.overflow_cast-adr
overflow_cast-adr c = record { fits = ltb-true _ _ (holds_as _ _ c.requires c.in-ReadBlock.is) }

pub overflow_cast-adr-in-WriteBlock : goal.overflow_cast-adr-in-WriteBlock
overflow_cast-adr-in-WriteBlock c = record { fits = ltb-true _ _ (holds_as _ _ c.requires c.in-WriteBlock.is) }
