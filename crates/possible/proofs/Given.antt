-- For every pair that a request can be answered with there is a legal desk that gives it. Assumes nothing.
use Prim.Native.Nat.{ℕ, ◌+◌, ◌*◌, ◌≤◌, ◌<◌, min}
use mathlib.Core.Path.{◌≡◌, refl, sym, ap, ◌∙◌}
use mathlib.Core.Bool.{Bool, true, false, cond, ◌&&◌, ◌||◌, and-false}
use mathlib.Core.List.{List}
use native.Mathlib.Omega.{arith}
use lib.ListN.{length}
use lib.Dec.{eqb, ltb, lit≤}
use borrow.Author.Tests.{eqb-true, ltb-true, leb-true, le-ltb, eqb-false}
use Rattle.octets.specs.Numbers.{octets}
use Rattle.octets.proofs.Tests.{and_left, and_right, both}
use Rattle.frame.specs.declared.Kind.{Kind}
use Rattle.table.specs.Entries.{record_width, share}
use Rattle.rules.specs.Config.{block_of, block_size, password_in_ram}
use Rattle.rules.specs.Desk.{Desk, fresh_desk, with_login, with_table}
use Rattle.rules.specs.Records.{most_sent, records_for}
use Rattle.rules.specs.Command.{Result, result, password_is}
use Rattle.rules.specs.Legal.{desk_legal}
use Rattle.rules.proofs.Facts.{DeskLegal, desk-test}
use Rattle.rules.proofs.Legality.{fresh-desk-legal}
use Rattle.requests.specs.declared.Ask.{Ask}
use Rattle.requests.specs.declared.Ask.TheVariants.{Baud, Reset, SystemReset, ReadBlock, WriteBlock, SaveBlocks, RestoreBlocks, SetTimer, SendTimer, Login, ReadRecords, SendTable, RemoveRecords, ClearRecords}
use Rattle.requests.specs.declared.Request.{Request}
use Rattle.requests.specs.Request.{fields_hold, denied, needs_login}
use Rattle.possible.specs.Possible.{pair, plain, status_may, records_may, allowed, may_answer, possible}
use Rattle.requests.proofs.Asked.{answer_to, asked-barred}
use Rattle.requests.proofs.Denied.{denied-is}
use Rattle.possible.proofs.Answers.{k-back, sent-length, open_may, open-may}
use Rattle.possible.proofs.Witness.{witness, filled, filled-length, filled-legal, filled-goes, filled-status, witness-legal, asking, password-is, password-other, login-told, none_told, read_told}

pub record Given (q : Request) (status len : ℕ) : Type 0 where
  pub desk : Desk
  pub legal : desk_legal desk ≡ true
  pub status-is : (answer_to q desk).status ≡ status
  pub len_is : length (answer_to q desk).sent ≡ len

-- ---- a desk that gives a pair

pair_is : (wanted size status len : ℕ) → pair wanted size status len ≡ true → (status ≡ wanted) × (len ≡ size)
unfolding pair
pair_is wanted size status len e =
    (eqb-true status wanted (and_left (eqb status wanted) (eqb len size) e), eqb-true len size (and_right (eqb status wanted) (eqb len size) e))

plain-is : (wanted status len : ℕ) → plain wanted status len ≡ true → (status ≡ wanted) × (len ≡ 0)
unfolding plain
plain-is wanted status len e = pair_is wanted 0 status len e

-- an answer that is known
told-given : (q : Request) (d : Desk) (r : Result) (status len : ℕ) → DeskLegal d → answer_to q d ≡ r → r.status ≡ status → length r.sent ≡ len → Given q status len
told-given q d r status len p e f g =
    record { desk = d; legal = desk-test d p; status-is = ap (λ (x : Result). x.status) e ∙ f; len_is = ap (λ (x : Result). length x.sent) e ∙ g }

-- the only pair that can be
pair-given : (q : Request) (d : Desk) (wanted size status len : ℕ) → DeskLegal d
    → pair wanted size (answer_to q d).status (length (answer_to q d).sent) ≡ true → pair wanted size status len ≡ true → Given q status len
pair-given q d wanted size status len p e f =
    let a = pair_is wanted size (answer_to q d).status (length (answer_to q d).sent) e in
    let b = pair_is wanted size status len f in
    told-given q d (answer_to q d) status len p refl (a.0 ∙ sym b.0) (a.1 ∙ sym b.1)

-- ---- what a logged-in desk gives

-- a desk without records
abbrev someone : Desk
someone = witness 0 0 false

someone-legal : DeskLegal someone
someone-legal = witness-legal 0 false (lit≤ tt) (λ e. cc) 0

someone-may : (q : Request) → length q.bytes ≡ block_size → fields_hold q.ask ≡ true → open_may q (answer_to q someone).status (length (answer_to q someone).sent) ≡ true
unfolding witness with_login
someone-may q size holds = open-may q someone someone-legal size holds (and-false (needs_login q.ask))

-- it gives 0x11 where that is all that can be
denied-given : (q : Request) → length q.bytes ≡ block_size → fields_hold q.ask ≡ true → denied q ≡ true
    → (status len : ℕ) → plain 0x11 status len ≡ true → Given q status len
unfolding plain
denied-given q size holds e status len f = pair-given q someone 0x11 0 status len someone-legal (rw e at (someone-may q size holds)) f

module _ (kind : Kind) (desk : ℕ) (bytes : List ℕ) (size : length bytes ≡ block_size) (status len : ℕ) where
  -- and where one pair is allowed, that one
  one-given : (a : Ask) (wanted n : ℕ) → ((s l : ℕ) → allowed kind a s l ≡ pair wanted n s l) → fields_hold a ≡ true → denied (asking kind desk bytes a) ≡ false
      → allowed kind a status len ≡ true → Given (asking kind desk bytes a) status len
  one-given a wanted n only holds e f =
      let q = asking kind desk bytes a in
      pair-given q someone wanted n status len someone-legal (sym (only _ _) ∙ (rw e at (someone-may q size holds))) (sym (only status len) ∙ f)

  block-given : (adr : ℕ) (b : Bool) → eqb (block_of adr) 0 ≡ b → fields_hold (ReadBlock adr) ≡ true → denied (asking kind desk bytes (ReadBlock adr)) ≡ false
      → allowed kind (ReadBlock adr) status len ≡ true → Given (asking kind desk bytes (ReadBlock adr)) status len
  unfolding plain
  block-given adr true z = one-given (ReadBlock adr) 0x15 0 (λ s l. rw z)
  block-given adr false z = one-given (ReadBlock adr) 0x00 block_size (λ s l. rw z)

  write-given : (adr : ℕ) (b : Bool) → password_in_ram adr ≡ b → fields_hold (WriteBlock adr) ≡ true → denied (asking kind desk bytes (WriteBlock adr)) ≡ false
      → allowed kind (WriteBlock adr) status len ≡ true → Given (asking kind desk bytes (WriteBlock adr)) status len
  unfolding plain
  write-given adr true z = one-given (WriteBlock adr) 0x16 0 (λ s l. rw z)
  write-given adr false z = one-given (WriteBlock adr) 0x00 0 (λ s l. rw z)

  -- a login: the right password, or another
  login-given : (password x : ℕ) (b : Bool) → password_is (octets 4 password) (witness x 0 false) ≡ b → plain (cond b 0x00 0x14) status len ≡ true
      → Given (asking kind desk bytes (Login password)) status len
  unfolding result
  login-given password x b e f =
      let w = witness x 0 false in
      let a = plain-is (cond b 0x00 0x14) status len f in
      told-given _ w _ status len (witness-legal 0 false (lit≤ tt) (λ o. cc) x) (login-told kind desk bytes w size password) (rw e (sym a.0)) (sym a.1)

  either-given : (password : ℕ) (b : Bool) → plain 0x00 status len ≡ b → b || plain 0x14 status len ≡ true → Given (asking kind desk bytes (Login password)) status len
  either-given password true e f = login-given password password true (password-is 0 false password) e
  either-given password false e f = login-given password (password + 1) false (password-other 0 false password) f

-- ---- 0x22

module _ (kind : Kind) (desk : ℕ) (bytes : List ℕ) (size : length bytes ≡ block_size) (k : ℕ) (holds : fields_hold (ReadRecords k) ≡ true) (some' : 0 < k) where
  none-given : (status len : ℕ) → plain 0x92 status len ≡ true → Given (asking kind desk bytes (ReadRecords k)) status len
  unfolding witness with_login with_table result
  none-given status len e =
      let a = plain-is 0x92 status len e in
      told-given _ someone _ status len someone-legal (none_told kind desk bytes someone size k holds some' (filled-length 0 false)) (sym a.0) (sym a.1)

  -- h records, of which n go
  filled-given : (h n status : ℕ) (mark : Bool) → 0 < h → h ≤ share → (mark ≡ true → h ≡ share) → min (min k h) (most_sent kind) ≡ n
      → cond mark 0x93 (cond (ltb n (min k h)) 0x94 0x00) ≡ status → Given (asking kind desk bytes (ReadRecords k)) status (2 + n * record_width)
  unfolding witness with_login with_table result
  filled-given h n status mark some'' few full e told =
      let w = witness 0 h mark in
      let t = filled h mark in
      told-given _ w _ status (2 + n * record_width) (witness-legal h mark few full 0)
      (read_told kind desk bytes w size k holds some' (omega (arith, filled-length h mark)))
      (rw (filled-status h mark kind k, e) told)
      (sent-length kind k t (filled-legal h mark few full) ∙ rw (filled-goes h mark kind k, e))

  -- n records: 0x00 from as many, 0x93 and 0x94 from 64
  status-given : (n status : ℕ) → 0 < n → n ≤ min k share → n ≤ most_sent kind
      → (a b : Bool) → eqb status 0x00 ≡ a → eqb status 0x93 && eqb n (min (min k share) (most_sent kind)) ≡ b
      → a || b || (eqb status 0x94 && eqb n (most_sent kind) && ltb n (min k share)) ≡ true → Given (asking kind desk bytes (ReadRecords k)) status (2 + n * record_width)
  status-given n status l m f true b e g t =
      filled-given n n status false l (omega arith) (λ o. cc) (omega arith) (rw (le-ltb n (min k n) (omega arith)) (sym (eqb-true status 0x00 e)))
  status-given n status l m f false true e g t =
      let c = both (eqb status 0x93) (eqb n (min (min k share) (most_sent kind))) g in
      filled-given share n status true (lit≤ tt) (lit≤ tt) (λ o. refl) (sym (eqb-true n _ c.1)) (sym (eqb-true status 0x93 c.0))
  status-given n status l m f false false e g t =
      let c : (eqb status 0x94 ≡ true) × (eqb n (most_sent kind) ≡ true) × (ltb n (min k share) ≡ true) = search (and_left, and_right) in
      filled-given share n status false (lit≤ tt) (lit≤ tt) (λ o. cc) (omega (arith, eqb-true n (most_sent kind) c.1, ltb-true n (min k share) c.2))
      (rw c.2 (sym (eqb-true status 0x94 c.0)))

  records-given : (status len : ℕ) → records_may kind k status len ≡ true → Given (asking kind desk bytes (ReadRecords k)) status len
  unfolding records_may status_may
  records-given status len e =
      let n = records_for len in
      let whole : len ≡ 2 + n * record_width = eqb-true len (2 + n * record_width) (search (and_left, and_right)) in
      let l : 0 < n = ltb-true 0 n (search (and_left, and_right)) in
      let m : n ≤ min k share = leb-true n (min k share) (search (and_left, and_right)) in
      let f : n ≤ most_sent kind = leb-true n (most_sent kind) (search (and_left, and_right)) in
      rw whole (status-given n status l m f (eqb status 0x00) (eqb status 0x93 && eqb n (min (min k share) (most_sent kind))) refl refl (search (and_left, and_right)))

  read-given : (status len : ℕ) (b : Bool) → plain 0x92 status len ≡ b → b || records_may kind k status len ≡ true → Given (asking kind desk bytes (ReadRecords k)) status len
  read-given status len true e f = none-given status len e
  read-given status len false e f = records-given status len f

-- ---- every request

module _ (kind : Kind) (desk : ℕ) (bytes : List ℕ) (size : length bytes ≡ block_size) (status len : ℕ) where
  -- k is not 0 where the desk does not answer 0x11
  asks-some : (k : ℕ) → fields_hold (ReadRecords k) ≡ true → denied (asking kind desk bytes (ReadRecords k)) ≡ false → 0 < k
  asks-some k holds e =
      let z : eqb k 0 ≡ false = ap (λ (n : ℕ). eqb n 0) (sym (k-back k holds)) ∙ sym (denied-is (asking kind desk bytes (ReadRecords k)) size) ∙ e in
      omega (arith, eqb-false k 0 z)

  allowed-given : (a : Ask) → fields_hold a ≡ true → denied (asking kind desk bytes a) ≡ false → allowed kind a status len ≡ true → Given (asking kind desk bytes a) status len
  unfolding plain
  allowed-given (Baud n) = one-given kind desk bytes size status len (Baud n) 0x00 0 (λ s l. refl)
  allowed-given Reset = one-given kind desk bytes size status len Reset 0x00 0 (λ s l. refl)
  allowed-given SystemReset = one-given kind desk bytes size status len SystemReset 0x00 0 (λ s l. refl)
  allowed-given (ReadBlock adr) = block-given kind desk bytes size status len adr (eqb (block_of adr) 0) refl
  allowed-given (WriteBlock adr) = write-given kind desk bytes size status len adr (password_in_ram adr) refl
  allowed-given (SaveBlocks adr) = one-given kind desk bytes size status len (SaveBlocks adr) 0x00 0 (λ s l. refl)
  allowed-given (RestoreBlocks adr) = one-given kind desk bytes size status len (RestoreBlocks adr) 0x00 0 (λ s l. refl)
  allowed-given (SetTimer h m ms) = one-given kind desk bytes size status len (SetTimer h m ms) 0x00 0 (λ s l. refl)
  allowed-given SendTimer = one-given kind desk bytes size status len SendTimer 0x00 4 (λ s l. refl)
  allowed-given (Login password) = λ holds e f. either-given kind desk bytes size status len password (plain 0x00 status len) refl f
  allowed-given (ReadRecords k) = λ holds e f. read-given kind desk bytes size k holds (asks-some k holds e) status len (plain 0x92 status len) refl f
  allowed-given SendTable = one-given kind desk bytes size status len SendTable 0x00 6 (λ s l. refl)
  allowed-given RemoveRecords = one-given kind desk bytes size status len RemoveRecords 0x00 0 (λ s l. refl)
  allowed-given ClearRecords = one-given kind desk bytes size status len ClearRecords 0x00 0 (λ s l. refl)

module _ (q : Request) (status len : ℕ) (size : length q.bytes ≡ block_size) (holds : fields_hold q.ask ≡ true) where
  -- nobody is logged in at the fresh desk
  barred-given : needs_login q.ask && plain 0x13 status len ≡ true → Given q status len
  unfolding fresh_desk result
  barred-given e =
      let c = both (needs_login q.ask) (plain 0x13 status len) e in
      let a = plain-is 0x13 status len c.1 in
      told-given q fresh_desk _ status len fresh-desk-legal (asked-barred q fresh_desk size (rw c.0)) (sym a.0) (sym a.1)

  open-given : (b : Bool) → denied q ≡ b → cond b (plain 0x11 status len) (allowed q.kind q.ask status len) ≡ true → Given q status len
  open-given true e f = denied-given q size holds e status len f
  open-given false e f = allowed-given q.kind q.desk q.bytes size status len q.ask holds e f

  may-given : (b : Bool) → needs_login q.ask && plain 0x13 status len ≡ b → b || open_may q status len ≡ true → Given q status len
  may-given true e f = barred-given e
  may-given false e f = open-given (denied q) refl f

pub possible-given : (q : Request) (status len : ℕ) → length q.bytes ≡ block_size → possible q status len ≡ true → Given q status len
unfolding possible may_answer
possible-given q status len size e =
    may-given q status len size (search (and_left, and_right)) (needs_login q.ask && plain 0x13 status len) refl (search (and_left, and_right))
