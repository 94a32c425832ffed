-- A legal desk with a chosen password and so many records, where someone is logged in, and what it answers. Assumes nothing.
use Prim.Native.Nat.{ℕ, ◌+◌, ◌*◌, ◌≤◌, ◌<◌, min}
use mathlib.Core.Path.{◌≡◌, refl, sym, ap, ◌∙◌}
use mathlib.Core.Logic.{inl}
use mathlib.Core.Bool.{Bool, true, false, cond}
use mathlib.Core.List.{List, []}
use native.Mathlib.Omega.{arith}
use lib.ListN.{length, take, replicate, get_or, length-replicate}
use lib.Dec.{ltb, lit<}
use borrow.Author.Tests.{ne_eqb, eq-eqb}
use Rattle.octets.specs.Parts.{part, put, alike}
use Rattle.octets.specs.Numbers.{octets}
use Rattle.octets.specs.Tests.{first}
use Rattle.octets.proofs.Puts.{put-length, part-put-away, part-put-same}
use Rattle.octets.proofs.Numbers.{octets-length}
use Rattle.octets.proofs.Alike.{alike_refl, alike-ne}
use Rattle.octets.specs.Each.{Octet}
use Rattle.octets.proofs.Each.{all_replicate, octets-put, octets-number}
use Rattle.frame.specs.declared.Kind.{Kind}
use Rattle.table.specs.Entries.{record_width, share}
use Rattle.rules.specs.Config.{block_at, line_legal, defaults, block_size}
use Rattle.rules.specs.Desk.{Desk, Table, fresh_desk, with_memory, with_login, with_table}
use Rattle.rules.specs.Records.{most_sent, goes, read_status, counted, sent_table}
use Rattle.rules.specs.Command.{row_tests, table_tests, result, row_effect, table_effect, unless, password_is}
use Rattle.rules.proofs.Facts.{MemoryLegal, RecordLegal, TableLegal, DeskLegal}
use Rattle.rules.proofs.Memories.{defaults-legal}
use Rattle.rules.proofs.Legality.{fresh-desk-legal}
use Rattle.rules.proofs.Desks.{memory-legal, login-legal, table-legal}
use Rattle.requests.specs.declared.Ask.{Ask}
use Rattle.requests.specs.declared.Ask.TheVariants.{Login, ReadRecords}
use Rattle.requests.specs.declared.Request.{Request}
use Rattle.requests.specs.Request.{fields_hold}
use Rattle.requests.proofs.Asked.{answer_to, asked-open}
use Rattle.possible.proofs.Answers.{k-back}

-- the defaults, with a password
unfoldable pub keyed : ℕ → List ℕ
keyed x = put 0 (octets 4 x) defaults

-- n records of zeros, with the overflow mark or without
unfoldable pub filled : ℕ → Bool → Table
filled n mark = record { held = replicate n (replicate record_width 0); overflow = mark; due = 0; start = 0 }

unfoldable pub witness : ℕ → ℕ → Bool → Desk
witness x n mark = with_login true (with_table (filled n mark) (with_memory true (keyed x) fresh_desk))

-- ---- it is legal

keyed-legal : (x : ℕ) → MemoryLegal (keyed x)
unfolding keyed block_at
keyed-legal x = record {
  size = put-length 0 (octets 4 x) defaults ∙ defaults-legal.size;
  octets = octets-put 0 (octets 4 x) defaults (octets-number 4 x) defaults-legal.octets;
  line = ap line_legal (part-put-away (block_size * 7) block_size 0 (octets 4 x) defaults (inl (omega (arith, octets-length 4 x)))) ∙ defaults-legal.line;
}

zeros-legal : RecordLegal (replicate record_width 0)
zeros-legal = record { size = refl; octets = all_replicate Octet record_width 0 (lit< tt) }

module _ (n : ℕ) (mark : Bool) where
  pub filled-length : length (filled n mark).held ≡ n
  unfolding filled
  filled-length = length-replicate n (replicate record_width 0)

  pub filled-goes : (kind : Kind) (k : ℕ) → goes kind k (filled n mark) ≡ min (min k n) (most_sent kind)
  unfolding goes
  filled-goes kind k = rw filled-length

  pub filled-status : (kind : Kind) (k : ℕ) → read_status kind k (filled n mark) ≡ cond mark 0x93 (cond (ltb (min (min k n) (most_sent kind)) (min k n)) 0x94 0x00)
  unfolding read_status filled
  filled-status kind k = rw (filled-goes kind k, filled-length)

  module _ (few : n ≤ share) (full : mark ≡ true → n ≡ share) where
    pub filled-legal : TableLegal (filled n mark)
    unfolding filled
    filled-legal = record {
      few = omega (arith, filled-length);
      each = all_replicate RecordLegal n (replicate record_width 0) zeros-legal;
      mark = λ e. filled-length ∙ full e;
      due = omega arith;
      start = omega arith;
    }

    pub witness-legal : (x : ℕ) → DeskLegal (witness x n mark)
    unfolding witness
    witness-legal x =
        login-legal _ (table-legal _ (memory-legal fresh_desk fresh-desk-legal true (keyed x) (keyed-legal x)) (filled n mark) filled-legal) true

-- ---- its password

module _ (n : ℕ) (mark : Bool) where
  password-told : (password x : ℕ) → password_is (octets 4 password) (witness x n mark) ≡ alike (octets 4 password) (octets 4 x)
  unfolding password_is witness with_login with_table with_memory keyed
  password-told password x =
      ap (alike (octets 4 password))
      (ap (λ (k : ℕ). part 0 k (put 0 (octets 4 x) defaults)) (sym (octets-length 4 x))
      ∙ part-put-same 0 (octets 4 x) defaults (omega (arith, octets-length 4 x, defaults-legal.size)))

  pub password-is : (password : ℕ) → password_is (octets 4 password) (witness password n mark) ≡ true
  password-is password = password-told password password ∙ alike_refl (octets 4 password)

  -- the next number ends in another octet
  pub password-other : (password : ℕ) → password_is (octets 4 password) (witness (password + 1) n mark) ≡ false
  unfolding octets
  password-other password =
      password-told password (password + 1)
      ∙ alike-ne (octets 4 password) (octets 4 (password + 1)) (λ e. omega (arith, ap (λ (l : List ℕ). get_or l 3 0) e))

-- ---- what any desk answers to a login, and to 0x22

abbrev pub asking : Kind → ℕ → List ℕ → Ask → Request
asking kind desk bytes a = record { kind = kind; desk = desk; ask = a; bytes = bytes }

module _ (kind : Kind) (desk : ℕ) (bytes : List ℕ) (d : Desk) (size : length bytes ≡ block_size) where
  pub login-told : (password : ℕ)
      → answer_to (asking kind desk bytes (Login password)) d
      ≡ result (cond (password_is (octets 4 password) d) 0x00 0x14) [] (with_login (password_is (octets 4 password) d) d)
  unfolding row_tests table_tests first unless row_effect table_effect
  login-told password = asked-open (asking kind desk bytes (Login password)) d size refl

  module _ (k : ℕ) (f : fields_hold (ReadRecords k) ≡ true) (some' : 0 < k) where
    pub none_told : length d.table.held ≡ 0 → answer_to (asking kind desk bytes (ReadRecords k)) d ≡ result 0x92 [] d
    unfolding row_tests table_tests first unless row_effect table_effect
    none_told e =
        asked-open (asking kind desk bytes (ReadRecords k)) d size refl
        ∙ rw (k-back k f, ne_eqb k 0 (omega arith), eq-eqb (length d.table.held) 0 e)

    pub read_told : 0 < length d.table.held
        → answer_to (asking kind desk bytes (ReadRecords k)) d
        ≡ result (read_status kind k d.table) (counted (take (goes kind k d.table) d.table.held)) (with_table (sent_table (goes kind k d.table) d.table) d)
    unfolding row_tests table_tests first unless row_effect table_effect
    read_told h =
        asked-open (asking kind desk bytes (ReadRecords k)) d size refl
        ∙ rw (k-back k f, ne_eqb k 0 (omega arith), ne_eqb (length d.table.held) 0 (omega arith))
