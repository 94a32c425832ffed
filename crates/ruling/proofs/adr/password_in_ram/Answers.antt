-- `ruling::adr::password_in_ram` meets its contract: what the check finds alone too, said such that an edit falls at LOC. Assumes nothing.
use mathlib.Core.Path.{sym, ap, ◌∙◌}
use mathlib.Core.Bool.{not}
use borrow.Author.Tests.{eq-eqb}
use Rattle.rules.specs.Config.{password_in_ram}
use Rattle.ruling.proofs.adr.password_in_ram.Goals as goal

pub returns-then-block_of-eq0 : goal.returns-then-block_of-eq0
unfolding password_in_ram
returns-then-block_of-eq0 c = rw (eq-eqb _ 0 (sym c.block_of.ensures.0 ∙ c.if-block_of-eq0.true)) (ap not c.in_eeprom.ensures)
