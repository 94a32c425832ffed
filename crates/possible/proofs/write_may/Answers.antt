-- `possible::write_may` meets its contract: what the check finds alone too, said such that an edit falls at the status. Assumes nothing.
use mathlib.Core.Path.{sym, ◌∙◌}
use Rattle.possible.proofs.write_may.Goals as goal

pub returns-then-password_in_ram : goal.returns-then-password_in_ram
returns-then-password_in_ram c = rw (sym c.password_in_ram.ensures ∙ c.if-password_in_ram.true) c.is_plain.ensures
