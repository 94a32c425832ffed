-- `pieces::shown_width` meets its contract. Assumes nothing.
use native.Mathlib.Omega.{arith}
use borrow.Author.Tests.{eq-eqb, ne_eqb}
use Rattle.pieces.specs.Pieces.{shown_width}
use Rattle.pieces.proofs.shown_width.Goals as goal

pub returns-then-usage-eq2 : goal.returns-then-usage-eq2
unfolding shown_width
returns-then-usage-eq2 c = (rw (eq-eqb _ 2 c.if-usage-eq2.true), omega arith, omega arith)

pub returns-else-usage-eq2 : goal.returns-else-usage-eq2
unfolding shown_width
returns-else-usage-eq2 c = (rw (ne_eqb _ 2 c.if-usage-eq2.false), omega arith, omega arith)
