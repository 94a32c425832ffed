-- `doings::act_on` meets its contract: each doing by its function, and what that means. Assumes nothing.
use native.Mathlib.Omega.{arith}
use Rattle.doings.proofs.Meaning.{marked-change, due-change, closed-change, cleared-change, system-change, ticked-change}
use Rattle.rows.proofs.Meaning.{locked-change}
use Rattle.doings.proofs.Doings.{doing-done}
use Rattle.doings.proofs.act_on.Goals as goal

pub returns-in-Mark : goal.returns-in-Mark
returns-in-Mark c =
    doing-done _ _ _ _ _ c.in-Mark.is c.set_mark.ensures (marked-change _ c.requires.0)

pub returns-in-Due : goal.returns-in-Due
returns-in-Due c =
    doing-done _ _ _ _ _ c.in-Due.is c.set_due.ensures (due-change _ _ c.requires.0)

pub returns-in-Close : goal.returns-in-Close
returns-in-Close c =
    doing-done _ _ _ _ _ c.in-Close.is c.close_table.ensures (closed-change _ _ c.requires.0)

pub returns-in-Clear : goal.returns-in-Clear
returns-in-Clear c =
    doing-done _ _ _ _ _ c.in-Clear.is c.clear.ensures (cleared-change _ c.requires.0)

pub returns-in-Restart : goal.returns-in-Restart
returns-in-Restart c =
    doing-done _ _ _ _ _ c.in-Restart.is c.restart_all.ensures (system-change _ c.requires.0)

pub returns-in-Lock : goal.returns-in-Lock
returns-in-Lock c =
    doing-done _ _ _ _ _ c.in-Lock.is c.add_lock.ensures
    (locked-change _ c.requires.0 c.fits-row c.requires.1 _ (omega arith))

pub returns-in-Tick : goal.returns-in-Tick
returns-in-Tick c =
    doing-done _ _ _ _ _ c.in-Tick.is c.tick.ensures (ticked-change _ c.requires.0 c.fits-row c.requires.1)
