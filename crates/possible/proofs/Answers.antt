-- Every answer of a legal desk is a status and a data length that the request can be answered with. Assumes nothing.
use Prim.Native.Nat.{ℕ, ◌+◌, ◌*◌, ◌≤◌, ◌<◌, min}
use mathlib.Core.Path.{◌≡◌, refl, ap, ◌∙◌}
use mathlib.Core.Bool.{Bool, true, false, cond, not, ◌&&◌, ◌||◌}
use mathlib.Core.List.{List}
use native.Mathlib.Omega.{arith}
use lib.ListN.{length, take, length-take, length-append}
use lib.Dec.{eqb, ltb, lit<}
use borrow.Author.Tests.{ltb-true, lt-ltb, le-leb, eq-eqb, eqb-false, not-false, lt-leb}
use Rattle.octets.specs.Numbers.{octets, u16_at}
use Rattle.octets.specs.Tests.{first}
use Rattle.octets.proofs.Tests.{and_left}
use Rattle.octets.proofs.Numbers.{octets-length}
use Rattle.octets.proofs.Each.{all_take}
use Rattle.timer.specs.Clock.{timer_legal, timer_from}
use Rattle.timer.proofs.ReadBack.{timer-length}
use Rattle.frame.specs.declared.Kind.{Kind}
use Rattle.frame.specs.declared.Kind.TheVariants.{Standard, Advanced}
use Rattle.table.specs.Entries.{record_width, share, desks}
use Rattle.rules.specs.Config.{in_eeprom, block_of, names_one, names_some, password_in_ram, bytes_unfit, block_size}
use Rattle.rules.specs.Desk.{Desk, Table, memory_of}
use Rattle.rules.specs.Records.{most_sent, goes, read_status, counted}
use Rattle.rules.specs.Command.{row_tests, table_tests, Result, result, done, row_effect, table_effect, unless, password_is}
use Rattle.rules.proofs.Facts.{TableLegal, RecordLegal, DeskLegal}
use Rattle.rules.proofs.Memories.{length-block}
use Rattle.rules.proofs.Desks.{memory-of, names-one}
use Rattle.rules.proofs.Computed.{computed}
use Rattle.rules.proofs.Passwords.{bytes_fit}
use Rattle.requests.specs.declared.Ask.{Ask}
use Rattle.requests.specs.declared.Ask.TheVariants.{Baud, Reset, SystemReset, ReadBlock, WriteBlock, SaveBlocks, RestoreBlocks, SetTimer, SendTimer, Login, ReadRecords, SendTable, RemoveRecords, ClearRecords}
use Rattle.requests.specs.declared.Request.{Request}
use Rattle.requests.specs.Request.{body_of, fields_hold, denied, needs_login}
use Rattle.possible.specs.Possible.{pair, plain, status_may, records_may, allowed, may_answer, possible}
use Rattle.requests.proofs.Values.{two_back}
use Rattle.requests.proofs.Asked.{answer_to, own_answer, asked-barred, asked-open}
use Rattle.requests.proofs.Behind.{one-test, other_test, between}
use Rattle.requests.proofs.Denied.{unfit, denied-is}
use Rattle.rules.proofs.Counts.{legal-wide, records-back, counted-length}

-- ---- 0x22

some_fit : (kind : Kind) → 0 < most_sent kind
unfolding most_sent
some_fit Standard = lit< tt
some_fit Advanced = lit< tt

module _ (kind : Kind) (k : ℕ) (t : Table) (p : TableLegal t) where
  -- how long the data are with the records that go
  pub sent-length : length (counted (take (goes kind k t) t.held)) ≡ 2 + goes kind k t * record_width
  unfolding goes
  sent-length =
      let rs = take (goes kind k t) t.held in
      counted-length rs (legal-wide rs (all_take RecordLegal (goes kind k t) t.held p.each))
      ∙ ap (λ (n : ℕ). 2 + n * record_width) (length-take (goes kind k t) t.held ∙ omega arith)

  status-holds : (o l : Bool) → t.overflow ≡ o → ltb (goes kind k t) (min k (length t.held)) ≡ l
      → status_may (min k share) (most_sent kind) (goes kind k t) (cond o 0x93 (cond l 0x94 0x00)) ≡ true
  unfolding status_may goes
  status-holds true l e f = rw (eq-eqb (goes kind k t) (min (min k share) (most_sent kind)) (omega (arith, p.mark e)))
  status-holds false true e f =
      let h : goes kind k t < min k (length t.held) = ltb-true (goes kind k t) (min k (length t.held)) f in
      rw (eq-eqb (goes kind k t) (most_sent kind) (omega arith), lt-ltb (goes kind k t) (min k share) (omega (arith, p.few)))
  status-holds false false e f = refl

  records-hold : 0 < k → 0 < length t.held → records_may kind k (read_status kind k t) (length (counted (take (goes kind k t) t.held))) ≡ true
  unfolding records_may read_status
  records-hold h i =
      let n = goes kind k t in
      let some' : 0 < n = unfold goes in omega (arith, some_fit kind) in
      let few : n ≤ min k share = unfold goes in omega (arith, p.few) in
      let fit : n ≤ most_sent kind = unfold goes in omega arith in
      let whole = eq-eqb (2 + n * record_width) (2 + n * record_width) refl in
      rw (sent-length, records-back n, whole, lt-ltb 0 n some', le-leb n (min k share) few, le-leb n (most_sent kind) fit)
      (status-holds t.overflow (ltb n (min k (length t.held))) refl refl)

-- ---- tests before an answer

-- 0x11 and no data where the values are out of range, and else a pair that may be
abbrev says : Bool → (ℕ → ℕ → Bool) → Result → Bool
says out may r = cond out (plain 0x11 r.status (length r.sent)) (may r.status (length r.sent))

abbrev Says : (ℕ → ℕ → Bool) → Bool → Result → Type 0
Says may out r = says out may r ≡ true

or-second : (a b : Bool) → b ≡ true → a || b ≡ true
or-second true b e = refl
or-second false b e = e

either : (b : Bool) → plain 0x00 (cond b 0x00 0x14) 0 || plain 0x14 (cond b 0x00 0x14) 0 ≡ true
unfolding plain pair
either true = refl
either false = refl

pub k-back : (k : ℕ) → fields_hold (ReadRecords k) ≡ true → u16_at 0 (octets 2 k) ≡ k
k-back k e = two_back k (ltb-true k 65536 e)

module _ (kind : Kind) (desk : ℕ) (bytes : List ℕ) (d : Desk) (p : DeskLegal d) where
  own-may : (a : Ask) → fields_hold a ≡ true
      → says (unfit a bytes) (allowed kind a) (own_answer (record { kind = kind; desk = desk; ask = a; bytes = bytes }) d) ≡ true
  unfolding row_tests table_tests first row_effect table_effect done unless result plain pair
  own-may (Baud n) f = one-test (Says (plain 0x00)) d _ refl (not (eqb n 0)) (λ e. refl)
  own-may Reset f = refl
  own-may SystemReset f = refl
  own-may (ReadBlock adr) f =
      other_test (Says (allowed kind (ReadBlock adr))) d _ refl (not (names_one adr)) (eqb (block_of adr) 0) 0x15 (λ e. rw e)
      (λ e z. rw (z, length-block (memory_of (in_eeprom adr) d) (memory-of d p (in_eeprom adr)) (block_of adr) (names-one adr (not-false (names_one adr) e))))
  own-may (WriteBlock adr) f =
      between (Says (allowed kind (WriteBlock adr))) d _ refl (not (names_one adr)) (password_in_ram adr) (bytes_unfit (block_of adr) bytes) 0x16
      (bytes_fit adr bytes) (λ e. rw e) (λ e. rw e)
  own-may (SaveBlocks adr) f = one-test (Says (plain 0x00)) d _ refl (in_eeprom adr || not (names_some adr)) (λ e. refl)
  own-may (RestoreBlocks adr) f = one-test (Says (plain 0x00)) d _ refl (not (names_some adr)) (λ e. refl)
  own-may (SetTimer h m ms) f = one-test (Says (plain 0x00)) d _ refl (not (timer_legal (timer_from (body_of (SetTimer h m ms) bytes)))) (λ e. refl)
  own-may SendTimer f = rw (timer-length d.timer)
  own-may (Login password) f = either (password_is (octets 4 password) d)
  own-may (ReadRecords k) f =
      let t = d.table in
      rw (k-back k f)
      (other_test (Says (allowed kind (ReadRecords k))) d _ refl (eqb k 0) (eqb (length t.held) 0) 0x92 (λ e. refl)
      (λ e z. or-second (plain 0x92 (read_status kind k t) (length (counted (take (goes kind k t) t.held)))) _
      (records-hold kind k t p.table (omega (arith, eqb-false k 0 e)) (omega (arith, eqb-false (length t.held) 0 z)))))
  own-may SendTable f = rw (length-append, length-append, octets-length 2 share, octets-length 2 d.table.start, octets-length 2 (length d.table.held))
  own-may RemoveRecords f = refl
  own-may ClearRecords f = refl

-- ---- the answers

-- what a desk can answer that did not answer 0x13
abbrev pub open_may : Request → ℕ → ℕ → Bool
open_may q status len = cond (denied q) (plain 0x11 status len) (allowed q.kind q.ask status len)

module _ (q : Request) (d : Desk) (p : DeskLegal d) (size : length q.bytes ≡ block_size) (held : fields_hold q.ask ≡ true) where
  pub open-may : needs_login q.ask && not d.logged_in ≡ false → open_may q (answer_to q d).status (length (answer_to q d).sent) ≡ true
  open-may e = rw (asked-open q d size e, denied-is q size) (own-may q.kind q.desk q.bytes d p q.ask held)

  may-answer : (b : Bool) → needs_login q.ask && not d.logged_in ≡ b → may_answer q (answer_to q d).status (length (answer_to q d).sent) ≡ true
  unfolding may_answer plain pair result
  may-answer true e = rw (asked-barred q d size e, and_left (needs_login q.ask) (not d.logged_in) e)
  may-answer false e =
      let status = (answer_to q d).status in
      let len = length (answer_to q d).sent in
      or-second (needs_login q.ask && plain 0x13 status len) (open_may q status len) (open-may e)

pub answer-possible : (q : Request) (d : Desk) → DeskLegal d → length q.bytes ≡ block_size → q.desk < desks → fields_hold q.ask ≡ true
    → possible q (answer_to q d).status (length (answer_to q d).sent) ≡ true
unfolding possible
answer-possible q d p size low held = rw (lt-leb desks q.desk low, held) (may-answer q d p size held (needs_login q.ask && not d.logged_in) refl)

-- document 02 (ix): to a password into RAM 0x13 and 0x16 alone, and so 0x00 no more
pub password-answers : (kind : Kind) (desk : ℕ) (bytes : List ℕ) → length bytes ≡ block_size → desk < desks → (status len : ℕ)
    → possible (record { kind = kind; desk = desk; ask = WriteBlock 0x00; bytes = bytes }) status len ≡ plain 0x13 status len || plain 0x16 status len
unfolding possible may_answer computed
password-answers kind desk bytes size low status len =
    rw (lt-leb desks desk low, denied-is (record { kind = kind; desk = desk; ask = WriteBlock 0x00; bytes = bytes }) size) refl
