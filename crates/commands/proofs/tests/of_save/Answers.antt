-- `commands::tests::of_save` meets its contract. Assumes nothing.
use Rattle.std.proofs.Common.{◌≡◌, ◌||◌, not, sym, ◌∙◌}
use Rattle.rules.specs.Config.{in_eeprom, names_some}
use Rattle.rules.specs.Command.{adr_of, row_tests}
use Rattle.commands.proofs.Answers.{one-test}
use Rattle.commands.proofs.tests.of_save.Goals as goal
use Rattle.commands.proofs.tests.of_save.Goals.{then-in_eeprom, else-in_eeprom}

pub returns : goal.returns
unfolding row_tests
returns c =
    let adr = adr_of c.args.body.now in
    let wrong : c.if-in_eeprom.given ≡ (in_eeprom adr || not (names_some adr)) =
    elim c.if-in_eeprom.branch [
      | then-in_eeprom w ↦ rw (sym c.in_eeprom.ensures ∙ w.if-in_eeprom.true) (w.given-is ∙ w.if-in_eeprom.true)
      | else-in_eeprom w ↦ rw (sym c.in_eeprom.ensures ∙ w.if-in_eeprom.false, ← w.names_some.ensures) w.given-is
    ]
    in
    rw (c.given.ensures, wrong) (one-test _)
