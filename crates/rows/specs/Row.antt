-- What is done to the login, the timer, the locks and the memories of a desk's row, octet for octet. Assumes nothing.
use Rattle.std.specs.Prelude.{ℕ, ◌+◌, ◌*◌, Bool, true, false, cond, List, [], ◌∷◌, length, get_or}
use Rattle.octets.specs.Parts.{part, put}
use Rattle.octets.specs.Numbers.{u16_at}
use Rattle.locks.specs.declared.Lock.{Lock}
use Rattle.locks.specs.Locks.{most_locks, added, swept_of}
use Rattle.lockarea.specs.Area.{lock_width, locks_in, locks_octets}
use Rattle.rules.specs.Config.{block_size, memory_size, defaults}
use Rattle.store.specs.Rows.{ram_at, eeprom_at, valid_at, login_at, timer_at, count_at, locks_at}

-- one octet is written
abbrev pub one : ℕ → ℕ → List ℕ → List ℕ
one at x row = put at (x ∷ []) row

-- ---- login, timer

unfoldable pub login_row : Bool → List ℕ → List ℕ
login_row b row = one login_at (cond b 1 0) row

unfoldable pub timer_row : List ℕ → List ℕ → List ℕ
timer_row body row = put timer_at body row

-- ---- the locks: none, a new one, a tick

unfoldable pub unlocked_row : List ℕ → List ℕ
unlocked_row row = one count_at 0 row

-- the locks that a row says
abbrev pub locks_of : List ℕ → List Lock
locks_of row = locks_in (get_or row count_at 0) (part locks_at (lock_width * most_locks) row)

-- the locks are these
abbrev pub locks_row : List Lock → List ℕ → List ℕ
locks_row ls row = one count_at (length ls) (put locks_at (locks_octets ls) row)

unfoldable pub locked_row : ℕ → List ℕ → List ℕ
locked_row uid row = locks_row (added uid (u16_at valid_at row) (locks_of row)) row

unfoldable pub swept_row : List ℕ → List ℕ
swept_row row = locks_row (swept_of (locks_of row)) row

-- ---- the memories

-- where the memory that LOC names begins
abbrev pub memory_at : Bool → ℕ
memory_at eeprom = cond eeprom eeprom_at ram_at

unfoldable pub written_row : Bool → ℕ → List ℕ → List ℕ → List ℕ
written_row eeprom k bytes row = put (memory_at eeprom + block_size * k) bytes row

-- block k of EEPROM, or all blocks, from RAM
unfoldable pub saved_row : ℕ → List ℕ → List ℕ
saved_row k row = written_row true k (part (ram_at + block_size * k) block_size row) row

unfoldable pub all_saved_row : List ℕ → List ℕ
all_saved_row row = put eeprom_at (part ram_at memory_size row) row

-- all blocks of a memory to their defaults
unfoldable pub default_row : Bool → List ℕ → List ℕ
default_row eeprom row = put (memory_at eeprom) defaults row

-- ---- a restart

-- RAM from EEPROM
unfoldable pub loaded_row : List ℕ → List ℕ
loaded_row row = put ram_at (part eeprom_at memory_size row) row

-- VALID-TIME in force from EEPROM block 12
unfoldable pub valid_row : List ℕ → List ℕ
valid_row row = put valid_at (part (eeprom_at + block_size * 12) 2 row) row

-- both; logged out, no locks
unfoldable pub restarted_row : List ℕ → List ℕ
restarted_row row = unlocked_row (login_row false (valid_row (loaded_row row)))
