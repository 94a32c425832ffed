-- When a configuration write is accepted at a desk. Assumes nothing.
use Rattle.std.specs.Prelude.{ℕ, Bool, not, ◌&&◌, List, drop}
use Rattle.rules.specs.Config.{block_of, names_one, password_in_ram, in_eeprom, written, bytes_unfit}
use Rattle.rules.specs.Desk.{Desk, with_memory, memory_of}
use Rattle.rules.specs.declared.control.Command.TheVariants.{OnRow}
use Rattle.rules.specs.declared.control.RowCommand.TheVariants.{WriteBlock}
use Rattle.rules.specs.Control.{sized_for}
use Rattle.rules.specs.Command.{adr_of}

-- length, login, block, no password into RAM, and the bytes
unfoldable pub write_legal : Desk → List ℕ → Bool
write_legal d body =
    sized_for (OnRow WriteBlock) body && d.logged_in && names_one (adr_of body) && not (password_in_ram (adr_of body))
    && not (bytes_unfit (block_of (adr_of body)) (drop 1 body))

-- the fourteen bytes stand in the named block of the memory that LOC names, and nothing else is altered
unfoldable pub written_desk : List ℕ → Desk → Desk
written_desk body d =
    let loc = in_eeprom (adr_of body) in
    with_memory loc (written (block_of (adr_of body)) (drop 1 body) (memory_of loc d)) d
