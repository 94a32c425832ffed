-- What is owed of each command: its control byte finds it, it leaves a legal desk, and a reply carries its result and the statuses of its tests.
-- A further command has its cases here. Assumes nothing.
use Rattle.std.specs.Prelude.{Some}
use mathlib.Core.Path.{◌≡◌, refl, ◌∙◌, ap}
use Prim.Native.Nat.{ℕ}
use native.Mathlib.Omega.{arith}
use mathlib.Core.Bool.{Bool, true, false, not, ◌&&◌}
use mathlib.Core.List.{List, [], ◌++◌}
use mathlib.Core.Option.{none}
use lib.ListN.{length, get_or, drop, length-drop, length-append}
use lib.Dec.{lit<}
use borrow.Author.Tests.{eqb-true, eq-eqb, not-false}
use Rattle.octets.specs.Tests.{first}
use Rattle.octets.specs.Numbers.{u16_at, octets}
use Rattle.octets.proofs.Tests.{or_right, none-head, none_tail}
use Rattle.octets.specs.Each.{All, Octet}
use Rattle.octets.proofs.Each.{all_drop, all_append, octets-number}
use Rattle.frame.specs.declared.Kind.{Kind}
use Rattle.timer.specs.Clock.{midnight, timer_legal, timer_from, timer_octets}
use Rattle.timer.proofs.Ranges.{midnight-legal}
use Rattle.table.specs.Entries.{share}
use Rattle.rules.specs.declared.control.Command.{Command}
use Rattle.rules.specs.declared.control.Command.TheVariants.{OnRow, OnTable}
use Rattle.rules.specs.declared.control.RowCommand.{RowCommand}
use Rattle.rules.specs.declared.control.RowCommand.TheVariants.{Baud, Reset, ReadBlock, WriteBlock, SaveBlocks, RestoreBlocks, SetTimer, SendTimer, Login}
use Rattle.rules.specs.declared.control.TableCommand.{TableCommand}
use Rattle.rules.specs.declared.control.TableCommand.TheVariants.{SystemReset, ReadRecords, SendTable, RemoveRecords, ClearRecords}
use Rattle.rules.specs.Config.{in_eeprom, block_of, names_one, names_some, password_in_ram, bytes_unfit, defaults, block_at}
use Rattle.rules.specs.Desk.{Desk, empty_table, with_table, restarted, memory_of}
use Rattle.rules.specs.Control.{known, sized_for, terms_of, commands, known_in}
use Rattle.rules.specs.Command.{row_tests, table_tests, own_tests, result, done, row_effect, table_effect, effect, password_is}
use Rattle.rules.proofs.Facts.{DeskLegal}
use Rattle.rules.proofs.Memories.{defaults-legal, written-legal, copied-legal}
use Rattle.rules.proofs.Tables.{empty-legal, sent-legal, short-legal}
use Rattle.octets.proofs.Numbers.{octets-length}
use Rattle.timer.proofs.ReadBack.{timer-octets, timer-length}
use Rattle.rules.proofs.Desks.{none-legal, memory-legal, login-legal, timer-legal, locks-legal, table-legal, restarted-legal, memory-of, names-one}
use Rattle.rules.proofs.Carried.{Carried, few-carried, plain_carried, cond-octet, block-octets, block-few, records-carried}

-- ---- a command's control byte finds its terms

pub control-finds : (c : Command) → known (terms_of c).control ≡ Some (terms_of c)
unfolding known known_in commands
control-finds (OnRow Baud) = refl
control-finds (OnRow Reset) = refl
control-finds (OnRow ReadBlock) = refl
control-finds (OnRow WriteBlock) = refl
control-finds (OnRow SaveBlocks) = refl
control-finds (OnRow RestoreBlocks) = refl
control-finds (OnRow SetTimer) = refl
control-finds (OnRow SendTimer) = refl
control-finds (OnRow Login) = refl
control-finds (OnTable SystemReset) = refl
control-finds (OnTable ReadRecords) = refl
control-finds (OnTable SendTable) = refl
control-finds (OnTable RemoveRecords) = refl
control-finds (OnTable ClearRecords) = refl

pub found : (c : Command) (control : ℕ) → control ≡ (terms_of c).control → known control ≡ Some (terms_of c)
found c control e = ap known e ∙ control-finds c

-- ---- the desk is legal after it

-- a test on block 7 that was not given
not-given : (a b : Bool) → a && not b ≡ false → a ≡ true → b ≡ true
not-given true b e q = not-false b e
not-given false b e q = cc

module _ (d : Desk) (body : List ℕ) (p : DeskLegal d) where
  pub row-legal : All Octet body → (c : RowCommand) → sized_for (OnRow c) body ≡ true → first (row_tests c body) ≡ none → DeskLegal (row_effect c d body).desk
  unfolding row_effect row_tests done result sized_for
  row-legal o Baud s e = p
  row-legal o Reset s e = restarted-legal d p
  row-legal o ReadBlock s e = p
  row-legal o WriteBlock s e =
      let adr = get_or body 0 0 in
      let size : length body ≡ 15 = eqb-true (length body) 15 s in
      let one : names_one adr ≡ true = not-false (names_one adr) (none-head 0x11 (not (names_one adr)) _ e) in
      let line : bytes_unfit (block_of adr) (drop 1 body) ≡ false = none-head 0x11 _ [] (none_tail 0x16 (password_in_ram adr) _ (none_tail 0x11 (not (names_one adr)) _ e)) in
      memory-legal d p (in_eeprom adr) _
      (written-legal (memory_of (in_eeprom adr) d) (memory-of d p (in_eeprom adr)) (block_of adr) (names-one adr one) (drop 1 body)
      (simp length-drop (omega arith)) (all_drop Octet 1 body o) (λ q. not-given _ _ line (eq-eqb (block_of adr) 7 q)))
  row-legal o SaveBlocks s e =
      let adr = get_or body 0 0 in
      let some' : names_some adr ≡ true = not-false (names_some adr) (or_right (in_eeprom adr) (not (names_some adr)) (none-head 0x11 _ [] e)) in
      memory-legal d p true _ (copied-legal adr d.ram d.eeprom some' p.ram p.eeprom)
  row-legal o RestoreBlocks s e =
      let adr = get_or body 0 0 in
      let some' : names_some adr ≡ true = not-false (names_some adr) (none-head 0x11 _ [] e) in
      memory-legal d p (in_eeprom adr) _ (copied-legal adr defaults (memory_of (in_eeprom adr) d) some' defaults-legal (memory-of d p (in_eeprom adr)))
  row-legal o SetTimer s e = timer-legal d p (timer_from body) (not-false (timer_legal (timer_from body)) (none-head 0x11 _ [] e))
  row-legal o SendTimer s e = p
  row-legal o Login s e = login-legal d p _

  pub on-table-legal : (kind : Kind) (c : TableCommand) → DeskLegal (table_effect c kind d body).desk
  unfolding table_effect done result
  on-table-legal kind SystemReset =
      timer-legal (with_table empty_table (restarted d)) (table-legal (restarted d) (restarted-legal d p) empty_table empty-legal) midnight midnight-legal
  on-table-legal kind ReadRecords = table-legal d p _ (sent-legal kind (u16_at 0 body) d.table p.table)
  on-table-legal kind SendTable = p
  on-table-legal kind RemoveRecords = table-legal d p _ (short-legal d.table p.table)
  on-table-legal kind ClearRecords = locks-legal (with_table empty_table d) (table-legal d p empty_table empty-legal) [] (unfold with_table in none-legal d.valid) tt

  pub effect-legal : (kind : Kind) → All Octet body → (c : Command) → sized_for c body ≡ true → first (own_tests c kind d body) ≡ none → DeskLegal (effect c kind d body).desk
  effect-legal kind o (OnRow c) s e = row-legal o c s e
  effect-legal kind o (OnTable c) s e = on-table-legal kind c

-- ---- a reply carries its result

module _ (kind : Kind) (d : Desk) (body : List ℕ) (p : DeskLegal d) where
  row_carried : (c : RowCommand) → Carried kind (row_effect c d body)
  unfolding row_effect done
  row_carried Baud = plain_carried kind 0x00 _ (lit< tt)
  row_carried Reset = plain_carried kind 0x00 _ (lit< tt)
  row_carried ReadBlock =
      let m = memory_of (in_eeprom (get_or body 0 0)) d in
      few-carried kind 0x00 (block_at (block_of (get_or body 0 0)) m) d (lit< tt)
      (block-octets _ m (memory-of d p (in_eeprom (get_or body 0 0))).octets) (block-few _ m)
  row_carried WriteBlock = plain_carried kind 0x00 _ (lit< tt)
  row_carried SaveBlocks = plain_carried kind 0x00 _ (lit< tt)
  row_carried RestoreBlocks = plain_carried kind 0x00 _ (lit< tt)
  row_carried SetTimer = plain_carried kind 0x00 _ (lit< tt)
  row_carried SendTimer =
      few-carried kind 0x00 (timer_octets d.timer) d (lit< tt) (timer-octets d.timer p.timer) (omega (arith, timer-length d.timer))
  row_carried Login = plain_carried kind _ _ (cond-octet (password_is body d) 0x00 0x14 (lit< tt) (lit< tt))

  table-carried : (c : TableCommand) → Carried kind (table_effect c kind d body)
  unfolding table_effect done
  table-carried SystemReset = plain_carried kind 0x00 _ (lit< tt)
  table-carried ReadRecords = records-carried kind (u16_at 0 body) d.table _ p.table
  table-carried SendTable =
      few-carried kind 0x00 _ d (lit< tt)
      (all_append Octet (octets 2 share ++ octets 2 d.table.start) (octets 2 (length d.table.held))
      (all_append Octet (octets 2 share) (octets 2 d.table.start) (octets-number 2 share) (octets-number 2 d.table.start))
      (octets-number 2 (length d.table.held)))
      (simp (length-append, octets-length) (omega arith))
  table-carried RemoveRecords = plain_carried kind 0x00 _ (lit< tt)
  table-carried ClearRecords = plain_carried kind 0x00 _ (lit< tt)

  pub effect-carried : (c : Command) → Carried kind (effect c kind d body)
  effect-carried (OnRow c) = row_carried c
  effect-carried (OnTable c) = table-carried c

-- ---- statuses given by tests

abbrev pub Statuses : List (ℕ × Bool) → Type 0
Statuses ts = All (λ (t : ℕ × Bool). Octet t.0) ts

row-statuses : (c : RowCommand) (body : List ℕ) → Statuses (row_tests c body)
unfolding row_tests
row-statuses Baud body = (lit< tt, tt)
row-statuses Reset body = tt
row-statuses ReadBlock body = (lit< tt, (lit< tt, tt))
row-statuses WriteBlock body = (lit< tt, (lit< tt, (lit< tt, tt)))
row-statuses SaveBlocks body = (lit< tt, tt)
row-statuses RestoreBlocks body = (lit< tt, tt)
row-statuses SetTimer body = (lit< tt, tt)
row-statuses SendTimer body = tt
row-statuses Login body = tt

table-statuses : (c : TableCommand) (d : Desk) (body : List ℕ) → Statuses (table_tests c d body)
unfolding table_tests
table-statuses SystemReset d body = tt
table-statuses ReadRecords d body = (lit< tt, (lit< tt, tt))
table-statuses SendTable d body = tt
table-statuses RemoveRecords d body = tt
table-statuses ClearRecords d body = tt

pub own-statuses : (c : Command) (kind : Kind) (d : Desk) (body : List ℕ) → Statuses (own_tests c kind d body)
own-statuses (OnRow c) kind d body = row-statuses c body
own-statuses (OnTable c) kind d body = table-statuses c d body
