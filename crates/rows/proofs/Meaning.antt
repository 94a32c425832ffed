-- What each change of a row means, as the rules have it. Assumes nothing.
use Prim.Native.Nat.{ℕ, ◌+◌, ◌*◌, ◌^◌, ◌≤◌, ◌<◌}
use mathlib.Core.Path.{◌≡◌, refl, sym, ap}
use mathlib.Core.Bool.{Bool, true, false}
use mathlib.Core.List.{List, [], ◌∷◌}
use native.Mathlib.Omega.{arith}
use lib.Dec.{lit<, lit≤}
use lib.ListN.{length, get_or}
use Rattle.octets.specs.Parts.{part, put, rows}
use Rattle.octets.specs.Numbers.{number, u16_at, Octets}
use Rattle.octets.specs.Areas.{upto}
use Rattle.octets.proofs.Puts.{part_length, part-part, part-put-in}
use Rattle.timer.specs.Clock.{timer_from}
use Rattle.lockarea.specs.Area.{lock_width, locks_in, locks_octets}
use Rattle.rules.specs.Config.{block_size, block_count, memory_size, block_at, written, valid_of, defaults}
use Rattle.rules.specs.Desk.{memory_of, with_memory, with_valid, with_login, with_timer, with_locks, restarted}
use Rattle.rules.proofs.Memories.{defaults-legal}
use Rattle.store.specs.Rows.{ram_at, eeprom_at, field, fields, ram_field, eeprom_field, valid_field, login_field, timer_field, count_field, valid_at, count_at, locks_at, locks_field}
use Rattle.store.specs.View.{desk_of, desk_in}
use Rattle.octets.specs.Each.{All}
use Rattle.octets.proofs.Numbers.{number-one, number_at, u16_at-lt, octets-part}
use Rattle.locks.specs.declared.Lock.{Lock}
use Rattle.locks.specs.Locks.{most_locks, added, swept_of}
use Rattle.locks.proofs.Sound.{LockFits, added-fit, swept-fit}
use Rattle.lockarea.proofs.Stored.{locks-octets-length, locks-put, locks-in-fit}
use Rattle.store.proofs.Fields.{field-length}
use Rattle.rows.proofs.Lent.{swept-few, locked-few}
use Rattle.rows.specs.Change.{Fit, Change}
use Rattle.rows.specs.Row.{locks_of, locks_row, locked_row, swept_row, login_row, timer_row, written_row, saved_row, all_saved_row, unlocked_row, loaded_row, valid_row, restarted_row, default_row}
use Rattle.rows.proofs.Changes.{change-then, change-as, Changes, in-turn, into-change, over-change}

-- ---- login, timer, no locks

pub login-change : (b : Bool) → Changes (with_login b) (login_row b)
unfolding login_row desk_of fields upto number with_login
login-change true row fit = over-change (with_login true) row fit login_field (1 ∷ []) (lit< tt) refl refl (λ rs. refl)
login-change false row fit = over-change (with_login false) row fit login_field (0 ∷ []) (lit< tt) refl refl (λ rs. refl)

pub timer-change : (body : List ℕ) → length body ≡ 4 → Changes (with_timer (timer_from body)) (timer_row body)
unfolding timer_row desk_of fields upto with_timer
timer-change body h row fit = over-change (with_timer (timer_from body)) row fit timer_field body (lit< tt) h refl (λ rs. refl)

pub unlocked-change : Changes (with_locks []) unlocked_row
unfolding unlocked_row desk_of fields upto number locks_in rows with_locks
unlocked-change row fit = over-change (with_locks []) row fit count_field (0 ∷ []) (lit< tt) refl refl (λ rs. refl)

-- ---- the memories

pub written-change : (eeprom : Bool) (k : ℕ) (bytes : List ℕ) → k < block_count → length bytes ≡ block_size
    → Changes (λ d. with_memory eeprom (written k bytes (memory_of eeprom d)) d) (written_row eeprom k bytes)
unfolding written_row desk_of fields upto memory_of written with_memory
written-change true k bytes l h row fit = into-change _ row fit eeprom_field (block_size * k) bytes (lit< tt) (omega arith) refl (λ rs. refl)
written-change false k bytes l h row fit = into-change _ row fit ram_field (block_size * k) bytes (lit< tt) (omega arith) refl (λ rs. refl)

pub saved-change : (k : ℕ) → k < block_count → Changes (λ d. with_memory true (written k (block_at k d.ram) d.eeprom) d) (saved_row k)
unfolding saved_row desk_of fields field upto memory_of block_at
saved-change k l row fit =
    let bytes : List ℕ = part (ram_at + block_size * k) block_size row in
    change-as (written-change true k bytes l (part_length (ram_at + block_size * k) block_size row (omega (arith, fit.size))) row fit)
    (λ rs. rw (part-part (block_size * k) block_size ram_at memory_size row (omega arith)))

pub all-saved-change : Changes (λ d. with_memory true d.ram d) all_saved_row
unfolding all_saved_row desk_of fields field upto with_memory
all-saved-change row fit =
    over-change _ row fit eeprom_field (part ram_at memory_size row) (lit< tt) (part_length ram_at memory_size row (omega (arith, fit.size))) refl (λ rs. refl)

pub default-change : (eeprom : Bool) → Changes (with_memory eeprom defaults) (default_row eeprom)
unfolding default_row desk_of fields upto with_memory
default-change true row fit = over-change (with_memory true defaults) row fit eeprom_field defaults (lit< tt) defaults-legal.size refl (λ rs. refl)
default-change false row fit = over-change (with_memory false defaults) row fit ram_field defaults (lit< tt) defaults-legal.size refl (λ rs. refl)

-- ---- a restart

loaded-change : Changes (λ d. with_memory false d.eeprom d) loaded_row
unfolding loaded_row desk_of fields field upto with_memory
loaded-change row fit =
    over-change _ row fit ram_field (part eeprom_at memory_size row) (lit< tt) (part_length eeprom_at memory_size row (omega (arith, fit.size))) refl (λ rs. refl)

valid-change : Changes (λ d. with_valid (valid_of d.eeprom) d) valid_row
unfolding valid_row desk_of fields field upto valid_of block_at u16_at with_valid
valid-change row fit =
    let at : ℕ = eeprom_at + block_size * 12 in
    over-change _ row fit valid_field (part at 2 row) (lit< tt) (part_length at 2 row (omega (arith, fit.size))) refl
    (λ rs. rw (part-part 0 2 (block_size * 12) block_size (part eeprom_at memory_size row) (lit≤ tt), part-part (block_size * 12) 2 eeprom_at memory_size row (lit≤ tt)))

pub restarted-change : Changes restarted restarted_row
unfolding restarted_row restarted with_memory
restarted-change = in-turn (in-turn (in-turn loaded-change valid-change) (login-change false)) unlocked-change

-- ---- the locks

module _ (row : List ℕ) (fit : Fit row) where
  -- their octets, and then their count
  locks-change : (ls : List Lock) → All LockFits ls → length ls ≤ most_locks → Change (with_locks ls) row (locks_row ls row)
  unfolding desk_of fields field upto with_locks
  locks-change ls legal few =
      let row' : List ℕ = put locks_at (locks_octets ls) row in
      let size : length (locks_octets ls) ≡ lock_width * length ls = locks-octets-length ls in
      let p : Change (with_locks (locks_in (number (field row count_field)) (put 0 (locks_octets ls) (field row locks_field)))) row row' =
      into-change _ row fit locks_field 0 (locks_octets ls) (lit< tt) (omega arith) refl (λ rs. refl)
      in
      let q : Change (with_locks (locks_in (length ls) (field row' locks_field))) row' (locks_row ls row) =
      over-change _ row' p.fit count_field (length ls ∷ []) (lit< tt) refl refl (λ rs. rw number-one)
      in
      change-as (change-then p q)
      (λ rs. rw (part-put-in locks_at (lock_width * most_locks) 0 (locks_octets ls) row (omega arith), locks-put ls (field row locks_field) legal (omega (arith, field-length row fit.size locks_field (lit< tt)))))

  module _ (octet : Octets row) (few : get_or row count_at 0 ≤ most_locks) where
    -- the locks of the row are those of its desk
    locks-of : (rs : List (List ℕ)) → locks_of row ≡ (desk_in row rs).locks
    unfolding desk_of fields field upto
    locks-of rs = ap (λ (n : ℕ). locks_in n (part locks_at (lock_width * most_locks) row)) (sym (number_at count_at row))

    legal : All LockFits (locks_of row)
    legal = locks-in-fit (get_or row count_at 0) (part locks_at (lock_width * most_locks) row) (octets-part locks_at (lock_width * most_locks) row octet)
        (omega (arith, part_length locks_at (lock_width * most_locks) row (omega (arith, fit.size))))

    pub locked-change : (uid : ℕ) → uid < 2 ^ 64 → Change (λ d. with_locks (added uid d.valid d.locks) d) row (locked_row uid row)
    unfolding locked_row desk_of fields field upto u16_at
    locked-change uid h =
        let valid : ℕ = u16_at valid_at row in
        let v : valid < 65536 = u16_at-lt valid_at row octet (omega (arith, fit.size)) in
        change-as (locks-change (added uid valid (locks_of row)) (added-fit valid uid (locks_of row) (record { uid = h; left = v }) legal) (locked-few row few uid valid))
        (λ rs. rw (locks-of rs))

    pub swept-change : Change (λ d. with_locks (swept_of d.locks) d) row (swept_row row)
    unfolding swept_row
    swept-change = change-as (locks-change (swept_of (locks_of row)) (swept-fit (locks_of row) legal) (swept-few row few)) (λ rs. rw (locks-of rs))
