-- `commands::tests::of_write` meets its contract: its three tests, in their order. Assumes nothing.
use Rattle.rules.specs.Command.{row_tests}
use Rattle.commands.proofs.Answers.{three-tests}
use Rattle.commands.proofs.tests.of_write.Goals as goal

pub returns : goal.returns
unfolding row_tests
returns c =
    rw (c.or-2.ensures, c.or.ensures)
    (rw (c.given-address.ensures, c.names_one.ensures, c.given-password.ensures, c.password_in_ram.ensures)
    (rw (c.given-bytes.ensures, c.unfit.ensures, c.block_of.ensures.0) (three-tests _ _ _)))
