-- The locks of a row, lent to the crate `lockarea`: as many as fit, and the row with those that came back. Assumes nothing.
use Prim.Native.Nat.{◌*◌, ℕ, ◌≤◌}
use mathlib.Core.Path.{◌≡◌}
use mathlib.Core.List.{List, ◌++◌}
use native.Mathlib.Omega.{arith}
use lib.ListN.{length, take, drop, set, get_or}
use Rattle.octets.specs.Parts.{part, put}
use Rattle.octets.specs.Numbers.{u16_at}
use Rattle.octets.proofs.Lent.{put-lent}
use Rattle.locks.specs.declared.Lock.{Lock}
use Rattle.locks.specs.Locks.{most_locks, added, swept_of}
use Rattle.lockarea.specs.Area.{lock_width, locks_octets}
use Rattle.lockarea.proofs.Stored.{locks-octets-length, locks-in-length}
use Rattle.locks.proofs.Sweeps.{swept-length}
use Rattle.locks.proofs.Sound.{added-few}
use Rattle.store.specs.Layout.{row_width}
use Rattle.store.specs.Rows.{count_at, locks_at, valid_at}
use Rattle.rows.specs.Row.{locks_of, locks_row, locked_row}

module _ (row : List ℕ) (few : get_or row count_at 0 ≤ most_locks) where
  pub swept-few : length (swept_of (locks_of row)) ≤ most_locks
  swept-few = omega (arith, swept-length (locks_of row), locks-in-length (get_or row count_at 0) (part locks_at (lock_width * most_locks) row))

  pub locked-few : (uid valid : ℕ) → length (added uid valid (locks_of row)) ≤ most_locks
  locked-few uid valid = added-few valid uid (locks_of row) (omega (arith, locks-in-length (get_or row count_at 0) (part locks_at (lock_width * most_locks) row)))

-- the part of the locks is back as ys, with these locks in front, and then the count is written
pub locks-back : (row : List ℕ) (ls : List Lock) (ys : List ℕ) (n : ℕ) → length row ≡ row_width → length ls ≤ most_locks
    → ys ≡ put 0 (locks_octets ls) (take (lock_width * most_locks) (drop locks_at row)) → n ≡ length ls
    → set (take locks_at row ++ (ys ++ drop (lock_width * most_locks) (drop locks_at row))) count_at n ≡ locks_row ls row
unfolding put
locks-back row ls ys n size few e h =
    let l : length (locks_octets ls) ≤ lock_width * most_locks = omega (arith, locks-octets-length ls) in
    rw (put-lent locks_at (lock_width * most_locks) 0 (locks_octets ls) ys row e (omega arith) (omega arith), h)

-- the same where a lock of `valid` ticks was added
pub locked-back : (row : List ℕ) (uid valid : ℕ) (ys : List ℕ) (n : ℕ) → length row ≡ row_width → get_or row count_at 0 ≤ most_locks → valid ≡ u16_at valid_at row
    → ys ≡ put 0 (locks_octets (added uid valid (locks_of row))) (take (lock_width * most_locks) (drop locks_at row)) → n ≡ length (added uid valid (locks_of row))
    → set (take locks_at row ++ (ys ++ drop (lock_width * most_locks) (drop locks_at row))) count_at n ≡ locked_row uid row
unfolding locked_row
locked-back row uid valid ys n size few v e h = rw (← v) (locks-back row (added uid valid (locks_of row)) ys n size (locked-few row few uid valid) e h)
