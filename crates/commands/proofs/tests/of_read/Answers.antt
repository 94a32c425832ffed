-- `commands::tests::of_read` meets its contract: its two tests, in their order. Assumes nothing.
use Rattle.rules.specs.Command.{row_tests}
use Rattle.commands.proofs.Answers.{two-tests}
use Rattle.commands.proofs.tests.of_read.Goals as goal

pub returns : goal.returns
unfolding row_tests
returns c =
    rw (c.or.ensures, c.given-address.ensures, c.names_one.ensures, c.given-password.ensures, c.block_of.ensures.0) (two-tests _ _)
