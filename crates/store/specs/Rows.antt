-- A row: what is kept for a desk but for its records, in fields one after the other. Assumes nothing.
use Rattle.std.specs.Prelude.{ℕ, ◌+◌, ◌*◌, List, [], ◌∷◌, length, take, get_or}
use Rattle.octets.specs.Parts.{part}
use Rattle.octets.specs.Areas.{upto}
use Rattle.lockarea.specs.Area.{lock_width}
use Rattle.locks.specs.Locks.{most_locks}
use Rattle.rules.specs.Config.{memory_size}

-- ---- the fields, in their order

abbrev pub ram_field : ℕ
ram_field = 0

abbrev pub eeprom_field : ℕ
eeprom_field = 1

-- VALID-TIME in force
abbrev pub valid_field : ℕ
valid_field = 2

abbrev pub login_field : ℕ
login_field = 3

abbrev pub timer_field : ℕ
timer_field = 4

abbrev pub mark_field : ℕ
mark_field = 5

-- removal due
abbrev pub due_field : ℕ
due_field = 6

-- TAB-START
abbrev pub start_field : ℕ
start_field = 7

-- how many locks
abbrev pub count_field : ℕ
count_field = 8

abbrev pub locks_field : ℕ
locks_field = 9

-- how many octets each has
abbrev pub field_sizes : List ℕ
field_sizes = memory_size ∷ memory_size ∷ 2 ∷ 1 ∷ 4 ∷ 1 ∷ 1 ∷ 1 ∷ 1 ∷ lock_width * most_locks ∷ []

abbrev pub field_count : ℕ
field_count = length field_sizes

abbrev pub field_size : ℕ → ℕ
field_size k = get_or field_sizes k 0

-- ---- where each begins: right behind those before it

abbrev pub total : List ℕ → ℕ
total [] = 0
total (n ∷ ns) = n + total ns

abbrev pub field_at : ℕ → ℕ
field_at k = total (take k field_sizes)

abbrev pub ram_at : ℕ
ram_at = field_at ram_field

abbrev pub eeprom_at : ℕ
eeprom_at = field_at eeprom_field

abbrev pub valid_at : ℕ
valid_at = field_at valid_field

abbrev pub login_at : ℕ
login_at = field_at login_field

abbrev pub timer_at : ℕ
timer_at = field_at timer_field

abbrev pub mark_at : ℕ
mark_at = field_at mark_field

abbrev pub due_at : ℕ
due_at = field_at due_field

abbrev pub start_at : ℕ
start_at = field_at start_field

abbrev pub count_at : ℕ
count_at = field_at count_field

abbrev pub locks_at : ℕ
locks_at = field_at locks_field

-- ---- what stands in them

unfoldable pub field : List ℕ → ℕ → List ℕ
field row k = part (field_at k) (field_size k) row

unfoldable pub fields : List ℕ → List (List ℕ)
fields row = upto field_count (field row)
