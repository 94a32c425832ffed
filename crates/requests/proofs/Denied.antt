-- Which requests a logged-in desk answers 0x11: the same at every desk, and by the request's values alone. Assumes nothing.
use Prim.Native.Nat.{ℕ, min}
use mathlib.Core.Path.{◌≡◌, refl, sym, ap, ◌∙◌}
use mathlib.Core.Bool.{Bool, true, false, cond, not, ◌&&◌, ◌||◌}
use mathlib.Core.List.{List}
use lib.ListN.{length}
use lib.Dec.{eqb, ltb}
use Rattle.octets.specs.Tests.{first}
use Rattle.octets.specs.Numbers.{octets, u16_at}
use Rattle.timer.specs.Clock.{timer_legal, timer_from}
use Rattle.frame.specs.declared.Kind.{Kind}
use Rattle.rules.specs.Config.{block_size, in_eeprom, block_of, names_one, names_some, password_in_ram, bytes_unfit}
use Rattle.rules.specs.Desk.{Desk, with_login}
use Rattle.rules.specs.Command.{row_tests, table_tests, Result, result, done, row_effect, table_effect, unless, password_is}
use Rattle.rules.specs.Records.{goes, read_status}
use Rattle.rules.proofs.Computed.{computed}
use Rattle.rules.proofs.Passwords.{bytes_fit}
use Rattle.requests.specs.declared.Ask.{Ask}
use Rattle.requests.specs.declared.Ask.TheVariants.{Baud, Reset, SystemReset, ReadBlock, WriteBlock, SaveBlocks, RestoreBlocks, SetTimer, SendTimer, Login, ReadRecords, SendTable, RemoveRecords, ClearRecords}
use Rattle.requests.specs.declared.Request.{Request}
use Rattle.requests.specs.Request.{body_of, open_desk, denied, in_range, needs_login}
use Rattle.requests.proofs.Asked.{answer_to, own_answer, asked-open}
use Rattle.requests.proofs.Behind.{one-test, other_test, between}

-- the values that are out of range
abbrev pub unfit : Ask → List ℕ → Bool
unfit (Baud n) bytes = not (eqb n 0)
unfit Reset bytes = false
unfit SystemReset bytes = false
unfit (ReadBlock adr) bytes = not (names_one adr)
unfit (WriteBlock adr) bytes = not (names_one adr) || bytes_unfit (block_of adr) bytes
unfit (SaveBlocks adr) bytes = in_eeprom adr || not (names_some adr)
unfit (RestoreBlocks adr) bytes = not (names_some adr)
unfit (SetTimer h m ms) bytes = not (timer_legal (timer_from (body_of (SetTimer h m ms) bytes)))
unfit SendTimer bytes = false
unfit (Login password) bytes = false
unfit (ReadRecords k) bytes = eqb (u16_at 0 (octets 2 k)) 0
unfit SendTable bytes = false
unfit RemoveRecords bytes = false
unfit ClearRecords bytes = false

is11 : Result → Bool
is11 r = eqb r.status 0x11

abbrev Is11 : Bool → Result → Type 0
Is11 out r = is11 r ≡ out

cond-not : (b : Bool) (x y : ℕ) → eqb x 0x11 ≡ false → eqb y 0x11 ≡ false → eqb (cond b x y) 0x11 ≡ false
cond-not true x y p q = p
cond-not false x y p q = q

read-not : (a b : Bool) → eqb (cond a 0x93 (cond b 0x94 0x00)) 0x11 ≡ false
read-not true b = refl
read-not false true = refl
read-not false false = refl

module _ (kind : Kind) (bytes : List ℕ) (d : Desk) where
  own-11 : (desk : ℕ) (a : Ask) → is11 (own_answer (record { kind = kind; desk = desk; ask = a; bytes = bytes }) d) ≡ unfit a bytes
  unfolding row_tests table_tests first row_effect table_effect done is11 result read_status unless
  own-11 desk (Baud n) = one-test Is11 d _ refl (not (eqb n 0)) (λ e. refl)
  own-11 desk Reset = refl
  own-11 desk SystemReset = refl
  own-11 desk (ReadBlock adr) = other_test Is11 d _ refl (not (names_one adr)) (eqb (block_of adr) 0) 0x15 (λ e. refl) (λ e z. refl)
  own-11 desk (WriteBlock adr) =
      between Is11 d _ refl (not (names_one adr)) (password_in_ram adr) (bytes_unfit (block_of adr) bytes) 0x16 (bytes_fit adr bytes) (λ e. refl) (λ e. refl)
  own-11 desk (SaveBlocks adr) = one-test Is11 d _ refl (in_eeprom adr || not (names_some adr)) (λ e. refl)
  own-11 desk (RestoreBlocks adr) = one-test Is11 d _ refl (not (names_some adr)) (λ e. refl)
  own-11 desk (SetTimer h m ms) = one-test Is11 d _ refl (not (timer_legal (timer_from (body_of (SetTimer h m ms) bytes)))) (λ e. refl)
  own-11 desk SendTimer = refl
  own-11 desk (Login password) = cond-not (password_is (octets 4 password) d) 0x00 0x14 refl refl
  own-11 desk (ReadRecords k) =
      other_test Is11 d _ refl (eqb (u16_at 0 (octets 2 k)) 0) (eqb (length d.table.held) 0) 0x92 (λ e. refl)
      (λ e z. read-not d.table.overflow (ltb (goes kind (u16_at 0 (octets 2 k)) d.table) (min (u16_at 0 (octets 2 k)) (length d.table.held))))
  own-11 desk SendTable = refl
  own-11 desk RemoveRecords = refl
  own-11 desk ClearRecords = refl

open-login : (a b : Bool) → b ≡ true → a && not b ≡ false
open-login true b e = ap not e
open-login false b e = refl

-- at every desk where someone is logged in
pub denied-at : (q : Request) (d : Desk) → length q.bytes ≡ block_size → d.logged_in ≡ true → eqb (answer_to q d).status 0x11 ≡ unfit q.ask q.bytes
unfolding is11
denied-at q d size e =
    ap is11 (asked-open q d size (open-login (needs_login q.ask) d.logged_in e)) ∙ own-11 q.kind q.bytes d q.desk q.ask

pub denied-is : (q : Request) → length q.bytes ≡ block_size → denied q ≡ unfit q.ask q.bytes
unfolding denied open_desk with_login
denied-is q size = denied-at q open_desk size refl

-- so what one of them answers 0x11, all of them do
pub denied-everywhere : (q : Request) (d : Desk) → length q.bytes ≡ block_size → d.logged_in ≡ true → eqb (answer_to q d).status 0x11 ≡ denied q
denied-everywhere q d size e = denied-at q d size e ∙ sym (denied-is q size)

-- what is asked is known
pub denied-as : (q : Request) (a : Ask) → length q.bytes ≡ block_size → q.ask ≡ a → unfit a q.bytes ≡ denied q
denied-as q a size e = ap (λ (x : Ask). unfit x q.bytes) (sym e) ∙ sym (denied-is q size)

-- document 02 (ix): a password into RAM is in range, since no desk answers it 0x11
pub password-in-range : (kind : Kind) (desk : ℕ) (bytes : List ℕ) → length bytes ≡ block_size
    → in_range (record { kind = kind; desk = desk; ask = WriteBlock 0x00; bytes = bytes }) ≡ true
unfolding in_range computed
password-in-range kind desk bytes size = rw (denied-is (record { kind = kind; desk = desk; ask = WriteBlock 0x00; bytes = bytes }) size) refl
