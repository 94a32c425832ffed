-- `commands::tests::own_tests` meets its contract: each arm is the tests of its command. Assumes nothing.
use native.Mathlib.Omega.{arith}
use Rattle.octets.specs.Tests.{first}
use Rattle.rules.specs.Command.{row_tests}
use Rattle.commands.specs.Ruled.{said}
use Rattle.commands.proofs.Answers.{part-whole, sized-as, tests-as, one-test}
use Rattle.commands.proofs.tests.own_tests.Goals as goal

pub bounds-body-0 : goal.bounds-body-0
bounds-body-0 c =
    omega (arith, sized-as _ c.in-Baud.is c.requires)

pub of_read-requires : goal.of_read-requires
of_read-requires c = sized-as _ c.in-ReadBlock.is c.requires

pub of_write-requires : goal.of_write-requires
of_write-requires c = sized-as _ c.in-WriteBlock.is c.requires

pub of_save-requires : goal.of_save-requires
of_save-requires c = sized-as _ c.in-SaveBlocks.is c.requires

pub bounds-body-0-in-RestoreBlocks : goal.bounds-body-0-in-RestoreBlocks
bounds-body-0-in-RestoreBlocks c =
    omega (arith, sized-as _ c.in-RestoreBlocks.is c.requires)

pub read-requires : goal.read-requires
read-requires c = omega (arith, sized-as _ c.in-SetTimer.is c.requires)

pub returns-in-Baud : goal.returns-in-Baud
unfolding row_tests
returns-in-Baud c = rw (c.in-Baud.is, c.given.ensures) (one-test _)

pub returns-in-Reset : goal.returns-in-Reset
unfolding first row_tests said
returns-in-Reset c = rw c.in-Reset.is

pub returns-in-RestoreBlocks : goal.returns-in-RestoreBlocks
unfolding row_tests
returns-in-RestoreBlocks c = rw (c.in-RestoreBlocks.is, c.given-in-RestoreBlocks.ensures, c.names_some.ensures) (one-test _)

pub returns-in-SetTimer : goal.returns-in-SetTimer
unfolding row_tests
returns-in-SetTimer c =
    rw (c.in-SetTimer.is, c.given-in-SetTimer.ensures, c.legal.ensures, c.read.ensures, part-whole 4 _ (sized-as _ c.in-SetTimer.is c.requires)) (one-test _)

pub returns-in-SendTimer : goal.returns-in-SendTimer
unfolding first row_tests said
returns-in-SendTimer c = rw c.in-SendTimer.is

pub returns-in-Login : goal.returns-in-Login
unfolding first row_tests said
returns-in-Login c = rw c.in-Login.is

pub returns-in-ReadBlock : goal.returns-in-ReadBlock
returns-in-ReadBlock c = search tests-as

pub returns-in-WriteBlock : goal.returns-in-WriteBlock
returns-in-WriteBlock c = search tests-as

pub returns-in-SaveBlocks : goal.returns-in-SaveBlocks
returns-in-SaveBlocks c = search tests-as
