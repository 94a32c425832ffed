-- What each doing means, as the rules have it. Assumes nothing.
use Prim.Native.Nat.{ℕ, ◌≤◌}
use mathlib.Core.Path.{◌≡◌, refl}
use mathlib.Core.Bool.{false}
use mathlib.Core.List.{List, [], ◌∷◌, ◌++◌}
use native.Mathlib.Omega.{arith}
use lib.Dec.{lit<}
use lib.ListN.{get_or, replicate}
use Rattle.octets.specs.Parts.{part}
use Rattle.octets.specs.Numbers.{number, u16_at, Octets}
use Rattle.octets.specs.Areas.{upto}
use Rattle.octets.proofs.Numbers.{number-one}
use Rattle.timer.specs.declared.Timer.{Timer}
use Rattle.timer.specs.Clock.{midnight, step_of, timer_from, timer_octets}
use Rattle.timer.proofs.Ranges.{TimerLegal, timer-facts, step-legal}
use Rattle.timer.proofs.ReadBack.{timer-length, timer-back}
use Rattle.locks.specs.Locks.{most_locks, swept_of}
use Rattle.rules.specs.Desk.{with_timer, with_locks, with_table, restarted}
use Rattle.rules.specs.Records.{marked, with_record, sent_table}
use Rattle.rules.specs.Sighting.{ticked}
use Rattle.store.specs.Rows.{timer_at, mark_at, start_at, count_at, field, fields, mark_field, due_field, start_field}
use Rattle.store.specs.View.{desk_of, desk_in}
use Rattle.rows.specs.Change.{Fit, Change}
use Rattle.rows.specs.Row.{one, swept_row}
use Rattle.rows.proofs.Changes.{change-then, change-as, Changes, in-turn, over-change}
use Rattle.rows.proofs.Meaning.{timer-change, unlocked-change, swept-change, restarted-change}
use Rattle.doings.specs.Doing.{on_table, closed_table, held_table}
use Rattle.doings.specs.Row.{marked_row, due_row, closed_row, midnight_row, stepped_row, ticked_row, cleared_row, system_row}

-- ---- mark, removal due, TAB-START, records

pub marked-change : Changes (on_table marked) marked_row
unfolding marked_row desk_of fields upto number marked with_table
marked-change row fit = over-change (on_table marked) row fit mark_field (1 ∷ []) (lit< tt) refl refl (λ rs. refl)

pub due-change : (n : ℕ) → Changes (on_table (sent_table n)) (due_row n)
unfolding due_row desk_of fields upto sent_table with_table
due-change n row fit = over-change (on_table (sent_table n)) row fit due_field (n ∷ []) (lit< tt) refl refl (λ rs. rw number-one)

-- the mark alone falls; TAB-START alone
unmarked-change : Changes (on_table (λ t. record { held = t.held; overflow = false; due = t.due; start = t.start })) (one mark_at 0)
unfolding desk_of fields upto number with_table
unmarked-change row fit = over-change _ row fit mark_field (0 ∷ []) (lit< tt) refl refl (λ rs. refl)

start-change : (n : ℕ) → Changes (on_table (λ t. record { held = t.held; overflow = t.overflow; due = t.due; start = n })) (one start_at n)
unfolding desk_of fields upto with_table
start-change n row fit = over-change _ row fit start_field (n ∷ []) (lit< tt) refl refl (λ rs. rw number-one)

pub closed-change : (start : ℕ) → Changes (on_table (closed_table start)) (closed_row start)
unfolding closed_row with_table sent_table
closed-change start = in-turn (in-turn unmarked-change (due-change 0)) (start-change start)

-- the records are none of the row's octets
pub held-anew : (row : List ℕ) (rs rs' : List (List ℕ)) → desk_in row rs' ≡ on_table (held_table rs') (desk_in row rs)
unfolding desk_of with_table
held-anew row rs rs' = refl

pub recorded : (row : List ℕ) (rs : List (List ℕ)) (r : List ℕ) → desk_in row (rs ++ r ∷ []) ≡ on_table (with_record r) (desk_in row rs)
unfolding desk_of with_record with_table
recorded row rs r = refl

-- ---- 0x33 and 0x64, but for the records

pub cleared-change : Changes (λ d. with_locks [] (on_table (closed_table 0) d)) cleared_row
unfolding cleared_row
cleared-change = in-turn (closed-change 0) unlocked-change

pub midnight-change : Changes (with_timer midnight) midnight_row
unfolding midnight_row midnight timer_from u16_at part number
midnight-change = timer-change (replicate 4 0) refl

pub system-change : Changes (λ d. with_timer midnight (on_table (closed_table 0) (restarted d))) system_row
unfolding system_row
system-change = in-turn (in-turn restarted-change (closed-change 0)) midnight-change

-- ---- a tick

stepped-change : Changes (λ d. with_timer (step_of d.timer) d) stepped_row
unfolding stepped_row desk_of fields field upto
stepped-change row fit =
    let t : Timer = timer_from (part timer_at 4 row) in
    let legal : TimerLegal (step_of t) = timer-facts (step_of t) (step-legal t) in
    change-as (timer-change (timer_octets (step_of t)) (timer-length (step_of t)) row fit) (λ rs. rw (timer-back (step_of t) (omega arith)))

pub ticked-change : (row : List ℕ) → Fit row → Octets row → get_or row count_at 0 ≤ most_locks → Change ticked row (ticked_row row)
unfolding ticked_row ticked with_locks
ticked-change row fit octet few =
    let p : Change (λ d. with_locks (swept_of d.locks) d) row (swept_row row) = swept-change row fit octet few in
    change-then p (stepped-change (swept_row row) p.fit)
