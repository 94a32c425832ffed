-- A command of a desk's row behind its own tests. Assumes nothing.
use Rattle.std.specs.Prelude.{ℕ, List, Option, Some, None}
use Rattle.std.proofs.Math.Option.{none, some}
use Rattle.std.proofs.Math.Option as tests
use Rattle.octets.specs.Tests.{first}
use Rattle.rules.specs.declared.control.RowCommand.{RowCommand}
use Rattle.rules.specs.Desk.{Desk}
use Rattle.rules.specs.Command.{Result, row_tests, unless}
use Rattle.effects.specs.Obeyed.{does}

-- what an answer says of the tests: the status of the first that is given, or that none is
unfoldable pub said : Option ℕ → tests.Option ℕ
said (Some status) = some status
said None = none

abbrev pub row_ruled : RowCommand → List ℕ → Desk → Result
row_ruled c body d = unless (first (row_tests c body)) d (does c body d)
