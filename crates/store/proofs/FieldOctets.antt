-- The fields of a row and the blocks 7 of its memories, read as octets of the row. Assumes nothing.
use Prim.Native.Nat.{ℕ, ◌+◌, ◌*◌, ◌≤◌, ◌<◌}
use mathlib.Core.Path.{◌≡◌, ap, ◌∙◌}
use mathlib.Core.Bool.{Bool}
use mathlib.Core.List.{List}
use native.Mathlib.Omega.{arith}
use lib.Dec.{lit<}
use lib.ListN.{length, get_or}
use borrow.Author.Tests.{eq-eqb}
use Rattle.octets.specs.Parts.{part}
use Rattle.octets.specs.Numbers.{number, u16_at, Octets}
use Rattle.octets.proofs.Each.{octets-each}
use Rattle.octets.proofs.Numbers.{number_at, octets-part}
use Rattle.octets.proofs.Puts.{part_at, part_length}
use Rattle.rules.specs.Config.{block_size, memory_size, block_at, line_legal, shape_legal}
use Rattle.rules.specs.Legal.{memory_legal}
use Rattle.rules.proofs.Facts.{octets-test}
use Rattle.store.specs.Rows.{field_at, field_size, field}

-- a field of one octet, and one of two
pub field-octet : (row : List ℕ) (k : ℕ) → field_size k ≡ 1 → number (field row k) ≡ get_or row (field_at k) 0
unfolding field
field-octet row k e = ap (λ (n : ℕ). number (part (field_at k) n row)) e ∙ number_at (field_at k) row

pub field-pair : (row : List ℕ) (k : ℕ) → field_size k ≡ 2 → number (field row k) ≡ u16_at (field_at k) row
unfolding field u16_at
field-pair row k e = ap (λ (n : ℕ). number (part (field_at k) n row)) e

-- what is told of a memory at a place is told of the field that begins there
pub memory-field : (row : List ℕ) (k at : ℕ) (r : Bool) → r ≡ memory_legal (part at memory_size row) → at ≡ field_at k → field_size k ≡ memory_size
    → r ≡ memory_legal (field row k)
unfolding field
memory-field row k at r told e n = rw (n, ← e) told

-- block 7 of a memory, octet by octet: it begins behind seven blocks
abbrev pub line : ℕ
line = block_size * 7

block-octet : (row : List ℕ) (at i : ℕ) → i < block_size → get_or (block_at 7 (part at memory_size row)) i 0 ≡ get_or row (at + (line + i)) 0
unfolding block_at
block-octet row at i l = part_at line block_size (part at memory_size row) i l ∙ part_at at memory_size row (line + i) (omega arith)

block-octets : (row : List ℕ) (at : ℕ) → line_legal (block_at 7 (part at memory_size row)) ≡ shape_legal (get_or row (at + line) 0) (get_or row (at + (line + 1)) 0) (get_or row (at + (line + 3)) 0) (get_or row (at + (line + 13)) 0)
unfolding line_legal
block-octets row at =
    rw (block-octet row at 0 (lit< tt), block-octet row at 1 (lit< tt), block-octet row at 3 (lit< tt), block-octet row at 13 (lit< tt))

-- what is left of a memory's legality, where its octets are such
pub memory-test : (row : List ℕ) (at : ℕ) → Octets row → at + memory_size ≤ length row
    → memory_legal (part at memory_size row) ≡ shape_legal (get_or row (at + line) 0) (get_or row (at + (line + 1)) 0) (get_or row (at + (line + 3)) 0) (get_or row (at + (line + 13)) 0)
unfolding memory_legal
memory-test row at o h =
    let m = part at memory_size row in
    rw (
      eq-eqb (length m) memory_size (part_length at memory_size row h),
      octets-test m (octets-each m (octets-part at memory_size row o)),
    )
    (block-octets row at)
