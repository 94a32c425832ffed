-- How long the pieces of a line are, and that a line's length goes by block 7 alone. Assumes nothing.
use Prim.Native.Nat.{ℕ, ◌+◌, ◌*◌, ◌/◌, ◌%◌, ◌≤◌}
use mathlib.Core.Path.{◌≡◌}
use mathlib.Core.Bool.{Bool, true, false, cond, ◌&&◌}
use mathlib.Core.List.{List}
use native.Mathlib.Omega.{arith}
use borrow.Author.Tests.{leb-true, eq-eqb, ne_eqb}
use lib.Dec.{eqb, leb}
use lib.ListN.{length, get_or, length-append}
use Rattle.octets.specs.Parts.{part}
use Rattle.octets.proofs.Tests.{both, and_right}
use Rattle.octets.proofs.Puts.{part_length}
use Rattle.rules.specs.Config.{use_legal, char_legal, len_legal, shape_legal, line_legal, block_size}
use Rattle.digits.proofs.Pairs.{hex-length}
use Rattle.rules.specs.Line.{hex, shown, heading, separator, ending, line}
use Rattle.pieces.specs.Pieces.{shown_width, width_of}

-- the nibbles of LEN-USR in a legal block
pub nibbles : (block : List ℕ) → line_legal block ≡ true → (get_or block 13 0 / 16 ≤ 4) × (get_or block 13 0 % 16 ≤ 3)
unfolding line_legal shape_legal len_legal
nibbles block e =
    let n = get_or block 13 0 in
    let l = and_right (use_legal (get_or block 0 0) && char_legal (get_or block 1 0) && char_legal (get_or block 3 0)) (len_legal n) e in
    let b = both (leb (n / 16) 4) (leb (n % 16) 3) l in
    (leb-true _ _ b.0, leb-true _ _ b.1)

pub heading-length : (block : List ℕ) → length block ≡ block_size → line_legal block ≡ true → length (heading block) ≡ get_or block 13 0 / 16
unfolding heading
heading-length block l e = part_length 8 (get_or block 13 0 / 16) block (omega (arith, (nibbles block e).0))

pub shown-hex : (db_use : ℕ) (s : List ℕ) → db_use ≡ 2 → shown db_use s ≡ hex s
unfolding shown
shown-hex db_use s e = rw (eq-eqb db_use 2 e)

pub shown-raw : (db_use : ℕ) (s : List ℕ) → (db_use ≡ 2 → ⊥) → shown db_use s ≡ s
unfolding shown
shown-raw db_use s e = rw (ne_eqb db_use 2 e)

pub shown-length : (db_use : ℕ) (s : List ℕ) → length (shown db_use s) ≡ shown_width db_use * length s
unfolding shown shown_width
shown-length db_use s = go (eqb db_use 2)
  where
    go : (b : Bool) → length (cond b (hex s) s) ≡ cond b 2 1 * length s
    go true = hex-length s
    go false = omega arith

-- the octets of a part, shown
pub shown-part : (db_use at n : ℕ) (r : List ℕ) → at + n ≤ length r → length (shown db_use (part at n r)) ≡ shown_width db_use * n
shown-part db_use at n r h = rw (shown-length, part_length at n r h)

module _ (block r : List ℕ) (h : 12 ≤ length r) where
  pub pieces-length : length (heading block) + length (shown (get_or block 0 0) (part 0 8 r)) + length (separator block) + length (shown (get_or block 0 0) (part 8 4 r)) + length (ending block) ≡ width_of block
  unfolding width_of
  pieces-length = omega (arith, shown-part (get_or block 0 0) 0 8 r (omega arith), shown-part (get_or block 0 0) 8 4 r (omega arith))

  pub line-length : length (line block r) ≡ width_of block
  unfolding line
  line-length = simp length-append pieces-length
