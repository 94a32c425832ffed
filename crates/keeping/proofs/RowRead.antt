-- What is read of a desk's row, where it lies in the store. Assumes nothing.
use Prim.Native.Nat.{ℕ, ◌+◌, ◌-◌, ◌*◌, ◌≤◌, ◌<◌}
use mathlib.Core.Path.{◌≡◌, sym, ap, ◌∙◌}
use mathlib.Core.Bool.{true}
use mathlib.Core.List.{List}
use native.Mathlib.Omega.{arith}
use lib.Dec.{eqb, lit<, lit≤}
use lib.ListN.{take, drop, get_or}
use Rattle.octets.specs.Parts.{part}
use Rattle.octets.specs.Areas.{upto}
use Rattle.octets.proofs.Puts.{part_at, part-part}
use Rattle.octets.proofs.Numbers.{number_at}
use Rattle.timer.specs.Clock.{timer_from}
use Rattle.locks.specs.Locks.{most_locks}
use Rattle.lockarea.specs.Area.{lock_width, locks_in}
use Rattle.table.specs.Entries.{desks}
use Rattle.rules.specs.Desk.{Desk}
use Rattle.store.specs.Layout.{row_width, row_at, row_of}
use Rattle.store.specs.Rows.{field, fields, count_at, locks_at, login_at, mark_at, due_at, start_at, timer_at}
use Rattle.store.specs.View.{desk_of}
use Rattle.store.specs.Sound.{sound}
use Rattle.keeping.specs.declared.Marks.{Marks}
use Rattle.keeping.specs.Kept.{kept, marks_of}
use Rattle.keeping.proofs.Rows.{kept-is, few-locks}

module _ (s : List ℕ) (e : sound s ≡ true) (d : ℕ) (h : d < desks) (at : ℕ) (q : at ≡ row_at d s) where
  -- an octet of the row
  octet-of : (i : ℕ) → i < row_width → get_or s (at + i) 0 ≡ get_or (row_of d s) i 0
  octet-of i l = rw q (sym (part_at (row_at d s) row_width s i l))

  pub few-there : get_or s (at + count_at) 0 ≤ most_locks
  few-there = rw (octet-of count_at (lit< tt)) (few-locks s e d h)

  pub marks-read : ◌≡◌ {A = Marks}
      (record { logged_in = eqb (get_or s (at + login_at) 0) 1; overflow = eqb (get_or s (at + mark_at) 0) 1; due = get_or s (at + due_at) 0; start = get_or s (at + start_at) 0 })
      (marks_of (kept d s))
  unfolding marks_of desk_of fields field upto
  marks-read =
      let row = row_of d s in
      rw (octet-of login_at (lit< tt), octet-of mark_at (lit< tt), octet-of due_at (lit< tt), octet-of start_at (lit< tt))
      (sym (ap marks_of (kept-is s e d h) ∙ rw (number_at login_at row, number_at mark_at row, number_at due_at row, number_at start_at row)))

  pub timer-read : timer_from (part (at + timer_at) 4 s) ≡ (kept d s).timer
  unfolding desk_of fields field upto
  timer-read = rw q (sym (ap (λ (k : Desk). k.timer) (kept-is s e d h) ∙ ap timer_from (part-part timer_at 4 (row_at d s) row_width s (lit≤ tt))))

  pub locks-lent : locks_in (get_or s (at + count_at) 0) (take (at + row_width - (at + locks_at)) (drop (at + locks_at) s)) ≡ (kept d s).locks
  unfolding desk_of fields field upto part
  locks-lent =
      let size = lock_width * most_locks in
      let n : at + row_width - (at + locks_at) ≡ size = omega arith in
      rw (n, octet-of count_at (lit< tt), q)
      (sym
      (ap (λ (k : Desk). k.locks) (kept-is s e d h)
      ∙ ap (λ (m : ℕ). locks_in m (part locks_at size (row_of d s))) (number_at count_at (row_of d s))
      ∙ ap (locks_in (get_or (row_of d s) count_at 0)) (part-part locks_at size (row_at d s) row_width s (lit≤ tt))))
