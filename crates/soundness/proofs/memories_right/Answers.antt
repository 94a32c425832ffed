-- `soundness::memories_right` meets its contract. Assumes nothing.
use mathlib.Core.Path.{refl}
use Rattle.store.specs.Rows.{ram_field, eeprom_field}
use Rattle.store.proofs.FieldOctets.{memory-field}
use Rattle.std.proofs.Common.{sym, ◌∙◌}
use Rattle.soundness.proofs.memories_right.Goals as goal

pub returns-then-memory_right : goal.returns-then-memory_right
returns-then-memory_right c =
    rw (sym (memory-field _ ram_field _ _ c.memory_right.ensures refl refl) ∙ c.if-memory_right.true)
    (memory-field _ eeprom_field _ _ c.memory_right-then-memory_right.ensures refl refl)

pub returns-else-memory_right : goal.returns-else-memory_right
returns-else-memory_right c =
    rw (sym (memory-field _ ram_field _ _ c.memory_right.ensures refl refl) ∙ c.if-memory_right.false) c.if-memory_right.false
