-- The answers of the commands that take records away: 0x32, 0x33, 0x64. Assumes nothing.
use Prim.Native.Nat.{ℕ, ◌+◌, ◌%◌, ◌<◌}
use mathlib.Core.Path.{◌≡◌, refl, ap}
use mathlib.Core.Bool.{true}
use mathlib.Core.List.{List, []}
use native.Mathlib.Omega.{arith}
use lib.ListN.{length-drop, drop, drop_of_length-le}
use Rattle.octets.specs.Tests.{first}
use Rattle.octets.proofs.Each.{all_drop}
use Rattle.octets.specs.Parts.{put}
use Rattle.frame.specs.declared.Kind.{Kind}
use Rattle.timer.proofs.Ranges.{midnight-legal}
use Rattle.timer.specs.Clock.{midnight}
use Rattle.table.specs.Entries.{desks, share}
use Rattle.rules.specs.declared.control.Command.TheVariants.{OnTable}
use Rattle.rules.specs.declared.control.TableCommand.{TableCommand}
use Rattle.rules.specs.declared.control.TableCommand.TheVariants.{SystemReset, RemoveRecords, ClearRecords}
use Rattle.rules.specs.Desk.{Desk, empty_table, with_timer, with_locks, with_table, restarted}
use Rattle.rules.specs.Records.{short_table}
use Rattle.rules.specs.Legal.{desk_legal}
use Rattle.rules.specs.Command.{result, done, unless, table_tests, table_effect}
use Rattle.rules.proofs.Facts.{RecordLegal, TableLegal, DeskLegal, desk-test}
use Rattle.rules.proofs.Tables.{empty-legal}
use Rattle.rules.proofs.Desks.{none-legal, timer-legal, locks-legal, table-legal, restarted-legal}
use Rattle.store.specs.Sound.{sound}
use Rattle.doings.specs.declared.Doing.{Doing}
use Rattle.doings.specs.declared.Doing.TheVariants.{Close, Clear, Restart}
use Rattle.doings.specs.Doing.{closed_table, held_table, done_by}
use Rattle.keeping.specs.declared.Marks.{Marks}
use Rattle.keeping.specs.Kept.{kept, Says, marks_of, with_held}
use Rattle.keeping.proofs.Rows.{kept-legal, kept-now, says_then}
use Rattle.effects.specs.declared.Reply.{Reply}
use Rattle.records.specs.Obeyed.{ruled}
use Rattle.records.proofs.Answers.{obeyed-as}
use Rattle.removals.specs.Removed.{Quiet, Empties, Emptied}

-- ---- tables that are legal

module _ (d : Desk) (p : DeskLegal d) where
  -- nothing marked or due, however many of the oldest records are gone
  fewer-legal : (k n : ℕ) → n < share → TableLegal (held_table (drop k d.table.held) (closed_table n d.table))
  fewer-legal k n l =
      record { few = simp length-drop (omega (arith, p.table.few)); each = all_drop RecordLegal k d.table.held p.table.each; mark = λ q. cc; due = omega arith; start = l }

  -- and with all records as they were
  closed-legal : (n : ℕ) → n < share → TableLegal (closed_table n d.table)
  closed-legal n l = fewer-legal 0 n l

  pub close-legal : (n : ℕ) → n < share → desk_legal (done_by (Close n) d) ≡ true
  close-legal n l = desk-test _ (table-legal d p _ (closed-legal n l))

  pub clear-empties : Empties Clear d
  unfolding with_table with_locks empty_table
  clear-empties =
      record {
        full = desk-test _ (locks-legal _ (table-legal d p _ (closed-legal 0 (omega arith))) [] (none-legal d.valid) tt);
        bare = desk-test _ (table-legal _ (locks-legal _ (table-legal d p _ (closed-legal 0 (omega arith))) [] (none-legal d.valid) tt) _ empty-legal);
      }

pub restart-empties : (d : Desk) → DeskLegal d → Empties Restart d
unfolding with_table with_timer empty_table
restart-empties d p =
    let q = restarted-legal d p in
    let r = table-legal _ q _ (closed-legal (restarted d) q 0 (omega arith)) in
    let t = timer-legal _ r midnight midnight-legal in
    record { full = desk-test _ t; bare = desk-test _ (table-legal _ t _ empty-legal) }

-- ---- what the commands leave

module _ (s : List ℕ) (e : sound s ≡ true) (d : ℕ) (h : d < desks) where
  -- a command on the records that leaves this desk
  quiet : (c : TableCommand) (desk' : Desk) (r : Reply) (s' : List ℕ) → ((kind : Kind) (body : List ℕ) → ruled (OnTable c) kind (kept d s) body ≡ result 0 [] desk')
      → r ≡ record { status = 0; len = 0 } → Says d desk' s s' → Quiet c d r s s'
  unfolding put
  quiet c desk' r s' q p says = record { obeyed = λ kind body out. obeyed-as d kind _ 0 [] desk' r s s' out out (q kind body) p refl says }

  -- ---- 0x32: those due go

  module _ (m : Marks) (p : m ≡ marks_of (kept d s)) where
    due-is : m.due ≡ (kept d s).table.due
    unfolding marks_of
    due-is = ap (λ (x : Marks). x.due) p

    start_is : m.start ≡ (kept d s).table.start
    unfolding marks_of
    start_is = ap (λ (x : Marks). x.start) p

    abbrev closed : Desk
    closed = done_by (Close ((m.start + m.due) % share)) (kept d s)

    short-is : with_held (drop m.due closed.table.held) closed ≡ with_table (short_table (kept d s).table) (kept d s)
    unfolding short_table with_table
    short-is = rw (due-is, start_is)

    module _ (s' : List ℕ) (a : Says d closed s s') where
      -- however many go, the desk stays legal
      pub fewer-bare : (k : ℕ) → desk_legal (with_held (drop k (kept d s').table.held) (kept d s')) ≡ true
      unfolding with_table
      fewer-bare k =
          let q = kept-legal s e d h in
          rw (kept-now d closed s s' h a) (desk-test _ (table-legal (kept d s) q _ (fewer-legal (kept d s) q k _ (omega arith))))

      -- what is left is what is behind those due
      pub removed-done : (left : List (List ℕ)) (r : Reply) (s'' : List ℕ) → r ≡ record { status = 0; len = 0 } → Says d (with_held left (kept d s')) s' s''
          → left ≡ drop m.due (kept d s').table.held → Quiet RemoveRecords d r s s''
      unfolding table_tests table_effect first done unless
      removed-done left r s'' reply b l =
          quiet RemoveRecords (with_table (short_table (kept d s).table) (kept d s)) r s'' (λ kind body. refl) reply
          (rw (← short-is) (says_then d closed _ s s' s'' a (rw (l, kept-now d closed s s' h a) at b)))

  -- ---- 0x33 and 0x64: a doing, and then none are left

  module _ (what : Doing) (q : Empties what (kept d s)) where
    -- a desk holds no more than its share
    none_left : (s' : List ℕ) → Says d (done_by what (kept d s)) s s' → drop share (kept d s').table.held ≡ []
    none_left s' a = drop_of_length-le (kept d s').table.held {i = share} (kept-legal s' a.still d h).table.few

    bare-is : (s' : List ℕ) → Says d (done_by what (kept d s)) s s' → with_held (drop share (kept d s').table.held) (kept d s') ≡ with_held [] (done_by what (kept d s))
    bare-is s' a = rw (none_left s' a, kept-now d (done_by what (kept d s)) s s' h a)

    pub bare-legal : (s' : List ℕ) → Says d (done_by what (kept d s)) s s' → desk_legal (with_held (drop share (kept d s').table.held) (kept d s')) ≡ true
    bare-legal s' a = rw (bare-is s' a) q.bare

    pub emptied : (r : Reply) (s' s'' : List ℕ) → r ≡ record { status = 0; len = 0 } → Says d (done_by what (kept d s)) s s'
        → Says d (with_held (drop share (kept d s').table.held) (kept d s')) s' s'' → Emptied what d r s s''
    emptied r s' s'' reply a b = record { plain = reply; says = says_then d _ _ s s' s'' a (rw (bare-is s' a) at b) }

  pub cleared : (r : Reply) (s' : List ℕ) → Emptied Clear d r s s' → Quiet ClearRecords d r s s'
  unfolding table_tests table_effect first done unless with_table with_locks empty_table
  cleared r s' x = quiet ClearRecords _ r s' (λ kind body. refl) x.plain x.says

  pub reset : (r : Reply) (s' : List ℕ) → Emptied Restart d r s s' → Quiet SystemReset d r s s'
  unfolding table_tests table_effect first done unless with_table with_timer empty_table
  reset r s' x = quiet SystemReset _ r s' (λ kind body. refl) x.plain x.says
