-- A count in two octets, and the records behind it: how long they are, and the count read back. Assumes nothing.
use Prim.Native.Nat.{ℕ, ◌+◌, ◌*◌, ◌≤◌, ◌<◌}
use mathlib.Core.Path.{◌≡◌, ap, ◌∙◌}
use mathlib.Core.List.{List, [], ◌∷◌}
use native.Mathlib.Nat.{mul_comm}
use native.Mathlib.Omega.{arith}
use lib.ListN.{length, length-append}
use lib.Seq.{take_at}
use Rattle.octets.specs.Parts.{part, joined}
use Rattle.octets.specs.Numbers.{number, octets, u16_at}
use Rattle.octets.proofs.Numbers.{octets-length, number-octets}
use Rattle.octets.specs.Each.{All}
use Rattle.octets.proofs.Rows.{Wide, length-joined}
use Rattle.table.specs.Entries.{record_width}
use Rattle.rules.specs.Records.{counted, records_for}
use Rattle.rules.proofs.Facts.{RecordLegal}

pub legal-wide : (rs : List (List ℕ)) → All RecordLegal rs → Wide record_width rs
unfolding Wide
legal-wide [] p = tt
legal-wide (r ∷ rs) p = (p.0.size, legal-wide rs p.1)

pub records-back : (n : ℕ) → records_for (2 + n * record_width) ≡ n
unfolding records_for
records-back n = omega arith

-- so many records, and their count, are no longer than what they were counted in
pub records-bound : (len n m : ℕ) → n ≡ records_for len → len < m → 2 < m → 2 + n * record_width < m
unfolding records_for
records-bound len n m e h l = omega arith

pub record-inside : (len n i : ℕ) → n ≡ records_for len → i < n → 2 + i * record_width + record_width ≤ len
unfolding records_for
record-inside len n i e h = omega arith

module _ (rs : List (List ℕ)) where
  pub counted-length : Wide record_width rs → length (counted rs) ≡ 2 + length rs * record_width
  unfolding counted
  counted-length w =
      length-append (octets 2 (length rs)) (joined rs) ∙ omega (arith, octets-length 2 (length rs), length-joined record_width rs w, mul_comm record_width (length rs))

  pub count-back : length rs < 65536 → u16_at 0 (counted rs) ≡ length rs
  unfolding counted u16_at part
  count-back h = ap number (take_at (octets 2 (length rs)) (joined rs) 2 (octets-length 2 (length rs))) ∙ number-octets 2 (length rs) h
