-- What is done to a row by sightings, by ticks and by the commands that concern records too, and what that does to the desk. Assumes nothing.
use Rattle.std.specs.Prelude.{ℕ, false, List, []}
use Rattle.timer.specs.Clock.{midnight}
use Rattle.locks.specs.Locks.{added}
use Rattle.rules.specs.Desk.{Desk, Table, with_table, with_timer, with_locks, restarted}
use Rattle.rules.specs.Records.{marked, sent_table}
use Rattle.rules.specs.Sighting.{ticked}
use Rattle.doings.specs.declared.Doing.{Doing}
use Rattle.doings.specs.declared.Doing.TheVariants.{Mark, Due, Close, Clear, Restart, Lock, Tick}

-- ---- what is done to a desk, where the rules have no word for it

abbrev pub on_table : (Table → Table) → Desk → Desk
on_table f d = with_table (f d.table) d

-- the mark falls, nothing is due, TAB-START is start
abbrev pub closed_table : ℕ → Table → Table
closed_table start t = record { held = t.held; overflow = false; due = 0; start = start }

-- other records
abbrev pub held_table : List (List ℕ) → Table → Table
held_table rs t = record { held = rs; overflow = t.overflow; due = t.due; start = t.start }

-- ---- what is done

abbrev pub done_by : Doing → Desk → Desk
done_by Mark d = on_table marked d
done_by (Due n) d = on_table (sent_table n) d
done_by (Close start) d = on_table (closed_table start) d
done_by Clear d = with_locks [] (on_table (closed_table 0) d)
done_by Restart d = with_timer midnight (on_table (closed_table 0) (restarted d))
done_by (Lock uid) d = with_locks (added uid d.valid d.locks) d
done_by Tick d = ticked d
