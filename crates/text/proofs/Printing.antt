-- What is printed: how long it is, and a line of hex digits in the output. Assumes nothing.
use Rattle.std.specs.Prelude.{Result, Ok, Err}
use Prim.Native.Nat.{ℕ, ◌+◌, ◌*◌, ◌≤◌}
use mathlib.Core.Path.{◌≡◌, sym, ap, ◌∙◌}
use mathlib.Core.List.{List, [], ◌∷◌, ◌++◌}
use native.Mathlib.Nat.{zero-add, le_trans}
use native.Mathlib.Omega.{arith}
use lib.Dec.{lit≤}
use lib.ListN.{length, set, take, length-append, length-take}
use Rattle.octets.specs.Parts.{put}
use Rattle.octets.proofs.Puts.{put-append, put_one}
use Rattle.rules.specs.Line.{hex}
use Rattle.digits.proofs.Pairs.{hex-length}
use Rattle.rules.specs.declared.Seen.TheVariants.{Ignored, Lost, Recorded}
use Rattle.events.specs.declared.Answer.{Answer}
use Rattle.events.specs.declared.Answer.TheVariants.{Reply, Sighted, Done}
use Rattle.events.proofs.Short.{Short}
use Rattle.frame.specs.declared.Refusal.{Refusal}
use Rattle.frame.specs.Refusal.{number_of}
use Rattle.digits.specs.Digits.{places_of, decimal_of}
use Rattle.digits.proofs.Decimals.{places-most, decimal-length}
use Rattle.text.specs.Listing.{word_room, longest_line, number_line, refused_line, hex_line, seen_line, ok_line, printed}

pub hex-line-length : (s : List ℕ) → length (hex_line s) ≡ 2 * length s + 1
unfolding hex_line
hex-line-length s = omega (arith, length-append (hex s) (0x0A ∷ []), hex-length s)

pub hex-line-put : (s out out' : List ℕ) → out' ≡ put 0 (hex s) out → set out' (2 * length s) 0x0A ≡ put 0 (hex_line s) out
unfolding hex_line
hex-line-put s out out' p =
    ap (λ (l : List ℕ). set l (2 * length s) 0x0A) p
    ∙ sym (put-append 0 (hex s) (0x0A ∷ []) out ∙ put_one (0 + length (hex s)) 0x0A (put 0 (hex s) out) ∙ rw (zero-add, hex-length))

pub number-line-length : (word : List ℕ) (n : ℕ) → length (number_line word n) ≡ length word + places_of n + 1
unfolding number_line
number-line-length word n =
    omega (arith, length-append word (decimal_of n ++ (0x0A ∷ [])), length-append (decimal_of n) (0x0A ∷ []), decimal-length n)

pub number-line-put : (word out mid out' : List ℕ) (n k : ℕ) → mid ≡ put 0 word out → k ≡ length (decimal_of n) → out' ≡ put (length word) (decimal_of n) mid
    → set out' (length word + k) 0x0A ≡ put 0 (number_line word n) out
unfolding number_line
number-line-put word out mid out' n k m l p =
    rw (p, m, l)
    (sym (put-append 0 word (decimal_of n ++ (0x0A ∷ [])) out ∙ put-append (0 + length word) (decimal_of n) (0x0A ∷ []) (put 0 word out) ∙ simp (put_one, zero-add)))

-- a word and a number have room among the words
number-line-short : (word : List ℕ) (n : ℕ) → length word + 6 ≤ word_room → length (number_line word n) ≤ word_room
number-line-short word n h = omega (arith, number-line-length word n, places-most n)

-- every line has room in as many octets as the longest
pub printed-short : (a : Result Answer Refusal) (reply : List ℕ) → Short a → length (printed a reply) ≤ longest_line
unfolding printed refused_line seen_line ok_line
printed-short (Err r) reply h = le_trans (number-line-short _ (number_of r) (lit≤ tt)) (lit≤ tt)
printed-short (Ok (Reply n)) reply h = omega (arith, hex-line-length (take n reply), length-take n reply)
printed-short (Ok (Sighted (Ignored left))) reply h = le_trans (number-line-short _ left (lit≤ tt)) (lit≤ tt)
printed-short (Ok (Sighted Lost)) reply h = omega arith
printed-short (Ok (Sighted Recorded)) reply h = omega arith
printed-short (Ok Done) reply h = omega arith

-- so it has room wherever the longest has
pub room_for : (a : Result Answer Refusal) (reply out : List ℕ) → Short a → longest_line ≤ length out → (word_room ≤ length out) × (length (printed a reply) ≤ length out)
room_for a reply out h l = (omega arith, omega (arith, printed-short a reply h))
