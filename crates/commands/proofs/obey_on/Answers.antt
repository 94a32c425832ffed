-- `commands::obey_on` meets its contract. Assumes nothing.
use Rattle.commands.specs.Ruled.{said}
use mathlib.Core.Path.{◌≡◌, refl, ◌∙◌}
use mathlib.Core.Option.{none}
use Rattle.octets.specs.Tests.{first}
use Rattle.rules.specs.Command.{row_tests}
use Rattle.commands.proofs.Answers.{ruled-done, ruled-refused, sized-size}
use Rattle.commands.proofs.obey_on.Goals as goal
use Rattle.commands.proofs.obey_on.Goals.{In-None}

pub returns-in-Some : goal.returns-in-Some
unfolding said
returns-in-Some c =
    ruled-refused c.args.command c.args.body.now _ (c.own_tests.ensures ∙ rw c.in-Some.is) c.requires.0 refl c.plain.ensures

-- no test is given
none-given : (c : In-None) → first (row_tests c.args.command c.args.body.now) ≡ none
unfolding said
none-given c = c.own_tests.ensures ∙ rw c.in-None.is

pub act-requires : goal.act-requires
act-requires c =
    (c.requires.0, record { size = sized-size _ _ c.requires.1; passed = none-given (goal.at.act-requires c).In-None }, c.requires.2)

pub returns-in-None : goal.returns-in-None
returns-in-None c =
    ruled-done _ _ (none-given (goal.at.returns-in-None c).In-None) c.act.ensures
