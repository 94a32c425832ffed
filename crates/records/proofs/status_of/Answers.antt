-- `records::status_of` meets its contract. Assumes nothing.
use borrow.Author.Tests.{lt-ltb, le-ltb}
use Rattle.records.proofs.status_of.Goals as goal

pub returns-then-goes-wanted : goal.returns-then-goes-wanted
returns-then-goes-wanted c = rw (c.if-mark.false, lt-ltb _ _ c.if-goes-wanted.true)

pub returns : goal.returns
returns c = rw (c.if-mark.false, le-ltb _ _ c.if-goes-wanted.false)
