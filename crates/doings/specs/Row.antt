-- What sightings, ticks and the commands of the table do to the row of one desk, octet for octet. Assumes nothing.
use Rattle.std.specs.Prelude.{ℕ, List, replicate}
use Rattle.octets.specs.Parts.{part}
use Rattle.timer.specs.Clock.{step_of, timer_octets, timer_from}
use Rattle.store.specs.Rows.{timer_at, mark_at, due_at, start_at}
use Rattle.rows.specs.Row.{one, timer_row, unlocked_row, swept_row, restarted_row}

-- ---- mark, removal due, TAB-START

unfoldable pub marked_row : List ℕ → List ℕ
marked_row row = one mark_at 1 row

unfoldable pub due_row : ℕ → List ℕ → List ℕ
due_row n row = one due_at n row

-- the mark falls, nothing is due, TAB-START is start
unfoldable pub closed_row : ℕ → List ℕ → List ℕ
closed_row start row = one start_at start (due_row 0 (one mark_at 0 row))

-- ---- a tick: of the locks, then of the timer

unfoldable pub stepped_row : List ℕ → List ℕ
stepped_row row = timer_row (timer_octets (step_of (timer_from (part timer_at 4 row)))) row

unfoldable pub ticked_row : List ℕ → List ℕ
ticked_row row = stepped_row (swept_row row)

-- ---- 0x33 and 0x64, but for the records

unfoldable pub cleared_row : List ℕ → List ℕ
cleared_row row = unlocked_row (closed_row 0 row)

unfoldable pub midnight_row : List ℕ → List ℕ
midnight_row row = timer_row (replicate 4 0) row

unfoldable pub system_row : List ℕ → List ℕ
system_row row = midnight_row (closed_row 0 (restarted_row row))
