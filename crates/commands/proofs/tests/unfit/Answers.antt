-- `commands::tests::unfit` meets its contract: the rule of block 7, and of no other. Assumes nothing.
use borrow.Author.Tests.{eq-eqb, ne_eqb}
use lib.Seq.{get_or-drop}
use Rattle.rules.specs.Config.{line_legal}
use Rattle.commands.proofs.tests.unfit.Goals as goal

pub returns-then-k-eq7 : goal.returns-then-k-eq7
unfolding line_legal
returns-then-k-eq7 c =
    simp (eq-eqb c.args.k 7 c.if-k-eq7.true, c.shape_legal.ensures, get_or-drop)

pub returns-else-k-eq7 : goal.returns-else-k-eq7
returns-else-k-eq7 c = rw (ne_eqb c.args.k 7 c.if-k-eq7.false)
