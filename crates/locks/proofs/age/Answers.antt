-- `locks::age` meets its contract. Assumes nothing.
use Rattle.std.proofs.Common.{arith}
use borrow.Author.Tests.{lt-ltb, le-ltb}
use Rattle.locks.specs.Locks.{aged_of}
use Rattle.locks.proofs.age.Goals as goal

pub returns-then-l-gt1 : goal.returns-then-l-gt1
unfolding aged_of
returns-then-l-gt1 c = rw (lt-ltb 1 c.args.l.left (omega arith))

pub returns-else-l-gt1 : goal.returns-else-l-gt1
unfolding aged_of
returns-else-l-gt1 c = rw (le-ltb 1 c.args.l.left (omega arith))
