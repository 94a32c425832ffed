-- A desk with a legal part in place of another is legal. Assumes nothing.
use mathlib.Core.Path.{◌≡◌}
use Prim.Native.Nat.{ℕ, ◌<◌}
use native.Mathlib.Omega.{arith}
use mathlib.Core.Bool.{Bool, true, false, not}
use mathlib.Core.List.{List, []}
use Rattle.octets.proofs.Tests.{and_right}
use Rattle.octets.specs.Each.{All}
use Rattle.timer.specs.declared.Timer.{Timer}
use Rattle.timer.specs.Clock.{timer_legal}
use Rattle.locks.specs.declared.Lock.{Lock}
use Rattle.locks.proofs.Sound.{LockFits, LocksLegal}
use Rattle.rules.specs.Config.{block_count, exists, valid_of, all_blocks, block_of, names_one}
use Rattle.rules.specs.Desk.{Desk, Table, with_memory, with_valid, with_login, with_timer, with_locks, with_table, restarted, memory_of}
use Rattle.rules.proofs.Facts.{MemoryLegal, TableLegal, DeskLegal}
use Rattle.rules.proofs.Memories.{exists_below, valid-below}

pub none-legal : (valid : ℕ) → LocksLegal valid []
none-legal valid = record { few = omega arith; each = tt; distinct = tt }

module _ (d : Desk) (p : DeskLegal d) where
  pub memory-legal : (b : Bool) (m : List ℕ) → MemoryLegal m → DeskLegal (with_memory b m d)
  unfolding with_memory
  memory-legal true m q = record { ram = p.ram; eeprom = q; valid = p.valid; timer = p.timer; locks = p.locks; fit = p.fit; table = p.table }
  memory-legal false m q = record { ram = q; eeprom = p.eeprom; valid = p.valid; timer = p.timer; locks = p.locks; fit = p.fit; table = p.table }

  pub login-legal : (b : Bool) → DeskLegal (with_login b d)
  unfolding with_login
  login-legal b = record { ram = p.ram; eeprom = p.eeprom; valid = p.valid; timer = p.timer; locks = p.locks; fit = p.fit; table = p.table }

  pub timer-legal : (t : Timer) → timer_legal t ≡ true → DeskLegal (with_timer t d)
  unfolding with_timer
  timer-legal t e = record { ram = p.ram; eeprom = p.eeprom; valid = p.valid; timer = e; locks = p.locks; fit = p.fit; table = p.table }

  pub locks-legal : (ls : List Lock) → LocksLegal d.valid ls → All LockFits ls → DeskLegal (with_locks ls d)
  unfolding with_locks
  locks-legal ls q f = record { ram = p.ram; eeprom = p.eeprom; valid = p.valid; timer = p.timer; locks = q; fit = f; table = p.table }

  pub table-legal : (t : Table) → TableLegal t → DeskLegal (with_table t d)
  unfolding with_table
  table-legal t r = record { ram = p.ram; eeprom = p.eeprom; valid = p.valid; timer = p.timer; locks = p.locks; fit = p.fit; table = r }

  pub restarted-legal : DeskLegal (restarted d)
  unfolding restarted with_memory with_valid with_login with_locks
  restarted-legal = record
      { ram = p.eeprom; eeprom = p.eeprom; valid = valid-below d.eeprom p.eeprom; timer = p.timer; locks = none-legal (valid_of d.eeprom); fit = tt; table = p.table }

  pub memory-of : (b : Bool) → MemoryLegal (memory_of b d)
  unfolding memory_of
  memory-of true = p.eeprom
  memory-of false = p.ram

pub names-one : (adr : ℕ) → names_one adr ≡ true → block_of adr < block_count
unfolding names_one
names-one adr e = exists_below (block_of adr) (and_right (not (all_blocks adr)) (exists (block_of adr)) e)
