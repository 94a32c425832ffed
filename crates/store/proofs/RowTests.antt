-- The tests of a row, one by one, are the legality of the desk that it says: what they leave out is so of any octets. Assumes nothing.
use mathlib.Core.Path.{◌≡◌, refl, sym}
use mathlib.Core.Bool.{Bool, true, false, not, ◌&&◌, ◌||◌, and-true}
use Prim.Native.Nat.{ℕ}
use mathlib.Core.List.{List}
use native.Mathlib.Omega.{arith}
use lib.Dec.{eqb, leb, ltb, lit<}
use lib.ListN.{length, get_or}
use Rattle.octets.specs.Tests.{all_of}
use Rattle.octets.specs.Numbers.{number, Octets}
use Rattle.octets.specs.Areas.{upto}
use Rattle.octets.proofs.Tests.{and_left, and_right}
use Rattle.octets.proofs.Numbers.{number_lt, octets-part}
use Rattle.timer.specs.Clock.{timer_legal, timer_from}
use Rattle.locks.specs.declared.Lock.{Lock}
use Rattle.lockarea.specs.Area.{locks_in}
use Rattle.locks.specs.Locks.{locks_legal}
use Rattle.lockarea.proofs.Stored.{locks-in-fit, locks-in-length}
use Rattle.locks.proofs.Sound.{locks-facts, locks-test}
use Rattle.table.specs.Entries.{share}
use Rattle.rules.specs.Legal.{memory_legal, record_legal, table_legal, desk_legal}
use Rattle.rules.proofs.Facts.{DeskLegal, memory-facts, memory-test, table-facts, table-test, desk-facts, desk-test}
use Rattle.store.specs.Layout.{row_width}
use Rattle.store.specs.Rows.{ram_field, eeprom_field, valid_field, timer_field, mark_field, due_field, start_field, count_field, locks_field, field_at, field_size, field, fields, due_at, start_at}
use Rattle.store.specs.View.{desk_of, desk_in}
use Rattle.store.proofs.Fields.{field-length}
use Rattle.store.proofs.FieldOctets.{field-octet}

-- two tests of which each tells the other
pub same_test : (a b : Bool) → (a ≡ true → b ≡ true) → (b ≡ true → a ≡ true) → a ≡ b
same_test true true p q = refl
same_test true false p q = sym (p refl)
same_test false true p q = q refl
same_test false false p q = refl

-- ---- what a test of the records sees

pub table-tests : (row : List ℕ) (held : ℕ) (rs : List (List ℕ)) → length rs ≡ held → all_of record_legal rs ≡ true
    → table_legal (desk_in row rs).table
    ≡ leb held share && (not (eqb (number (field row mark_field)) 1) || eqb held share) && leb (get_or row due_at 0) held && ltb (get_or row start_at 0) share
unfolding table_legal desk_of fields upto
table-tests row held rs l p = rw (l, p, and-true, field-octet row due_field refl, field-octet row start_field refl)

-- ---- the whole desk

abbrev valid_in : List ℕ → ℕ
valid_in row = number (field row valid_field)

abbrev locks_held : List ℕ → List Lock
locks_held row = locks_in (number (field row count_field)) (field row locks_field)

abbrev pub tests : List ℕ → List (List ℕ) → Bool
tests row rs =
    (memory_legal (field row ram_field) && memory_legal (field row eeprom_field)) && timer_legal (timer_from (field row timer_field))
    && locks_legal (valid_in row) (locks_held row) && table_legal (desk_in row rs).table

module _ (row : List ℕ) (l : length row ≡ row_width) (o : Octets row) (rs : List (List ℕ)) where
  field-octets : (k : ℕ) → Octets (field row k)
  unfolding field
  field-octets k = octets-part (field_at k) (field_size k) row o

  tests-legal : tests row rs ≡ true → DeskLegal (desk_in row rs)
  unfolding desk_of fields upto
  tests-legal e =
      let ok : locks_legal (valid_in row) (locks_held row) ≡ true = search (and_left, and_right) in
      let few = (locks-facts (valid_in row) (locks_held row) ok).few in
      record {
        ram = memory-facts (field row ram_field) (search (and_left, and_right));
        eeprom = memory-facts (field row eeprom_field) (search (and_left, and_right));
        valid = rw (field-length row l valid_field (lit< tt)) at (number_lt (field row valid_field) (field-octets valid_field));
        timer = search (and_left, and_right);
        locks = locks-facts (valid_in row) (locks_held row) ok;
        fit =
            locks-in-fit (number (field row count_field)) (field row locks_field) (field-octets locks_field)
            (omega (arith, few, locks-in-length (number (field row count_field)) (field row locks_field), field-length row l locks_field (lit< tt)));
        table = table-facts (desk_in row rs).table (search (and_left, and_right));
      }

  legal-tests : DeskLegal (desk_in row rs) → tests row rs ≡ true
  unfolding desk_of fields upto
  legal-tests p = rw (memory-test (field row ram_field) p.ram, memory-test (field row eeprom_field) p.eeprom, p.timer, locks-test (valid_in row) (locks_held row) p.locks) (table-test _ p.table)

  pub desk-tests : desk_legal (desk_in row rs) ≡ tests row rs
  desk-tests = same_test _ _ (λ e. legal-tests (desk-facts _ e)) (λ e. desk-test _ (tests-legal e))
