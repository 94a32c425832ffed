-- `frame::kind_of` meets its contract. Assumes nothing.
use borrow.Author.Tests.{eq-eqb, ne_eqb}
use Rattle.frame.specs.Judged.{kind_of}
use Rattle.frame.proofs.kind_of.Goals as goal

pub returns-then-frame-eq-FIRST : goal.returns-then-frame-eq-FIRST
unfolding kind_of
returns-then-frame-eq-FIRST c = rw (eq-eqb _ _ c.if-frame-eq-FIRST.true)

pub returns : goal.returns
unfolding kind_of
returns c = rw (ne_eqb _ _ c.if-frame-eq-FIRST.false)
