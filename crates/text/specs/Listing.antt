-- The listing: what a line says, and what is printed for it. Assumes nothing.
use Rattle.std.specs.Prelude.{ℕ, ◌+◌, ◌-◌, ◌*◌, ◌≡◌, Bool, false, cond, not, ◌&&◌, List, [], ◌∷◌, ◌++◌, length, get_or, take, drop, eqb, Result, Ok, Err}
use Rattle.octets.specs.Tests.{all_of}
use Rattle.octets.specs.Parts.{part, put}
use Rattle.octets.specs.Numbers.{number}
use Rattle.frame.specs.declared.Refusal.{Refusal}
use Rattle.frame.specs.Shape.{reply_room}
use Rattle.frame.specs.Refusal.{number_of}
use Rattle.rules.specs.declared.Seen.{Seen}
use Rattle.rules.specs.declared.Seen.TheVariants.{Ignored, Lost, Recorded}
use Rattle.rules.specs.Line.{hex}
use Rattle.events.specs.declared.Answer.{Answer}
use Rattle.events.specs.declared.Answer.TheVariants.{Reply, Sighted, Done}
use Rattle.digits.specs.Digits.{decimal, is_hex, octets_of, decimal_of}

-- ---- what a line says

-- a frame's octets; a desk, a UID and an antenna mask; a tick; or a line that is not read
pub data Line : Type 0 where
  frame : List ℕ → Line
  sighting : ℕ → ℕ → ℕ → Line
  tick : Line
  not_read : Line

unfoldable pub odd : List ℕ → Bool
odd [] = false
odd (c ∷ s) = not (odd s)

-- `t`
unfoldable pub is_tick : List ℕ → Bool
is_tick s = eqb (length s) 1 && eqb (get_or s 0 0) 0x74

-- `s`, a decimal desk digit, 16 hex digits and two for the mask, without spaces
unfoldable pub is_sighting : List ℕ → Bool
is_sighting s = eqb (length s) 20 && eqb (get_or s 0 0) 0x73 && decimal (get_or s 1 0) && all_of is_hex (drop 2 s)

unfoldable pub sighting_of : List ℕ → Line
sighting_of s = let o = octets_of (drop 2 s) in sighting (get_or s 1 0 - 0x30) (number (part 0 8 o)) (get_or o 8 0)

-- a line of which not every octet is a hex digit
unfoldable pub other_line : List ℕ → Line
other_line s = cond (is_tick s) tick (cond (is_sighting s) (sighting_of s) not_read)

-- the octets of a line, without its LF; an empty line is an empty frame
unfoldable pub line_of : List ℕ → Line
line_of s = cond (all_of is_hex s) (cond (odd s) not_read (frame (octets_of s))) (other_line s)

-- ---- what is printed

-- a word and a number in decimal, LF
unfoldable pub number_line : List ℕ → ℕ → List ℕ
number_line word n = word ++ (decimal_of n ++ (0x0A ∷ []))

-- `refused ` and its number
unfoldable pub refused_line : ℕ → List ℕ
refused_line n = number_line (0x72 ∷ 0x65 ∷ 0x66 ∷ 0x75 ∷ 0x73 ∷ 0x65 ∷ 0x64 ∷ 0x20 ∷ []) n

-- the reply in capital hex, LF
unfoldable pub hex_line : List ℕ → List ℕ
hex_line s = hex s ++ (0x0A ∷ [])

-- `ignored ` and the ticks left; `lost`; `recorded`
unfoldable pub seen_line : Seen → List ℕ
seen_line (Ignored left) = number_line (0x69 ∷ 0x67 ∷ 0x6E ∷ 0x6F ∷ 0x72 ∷ 0x65 ∷ 0x64 ∷ 0x20 ∷ []) left
seen_line Lost = 0x6C ∷ 0x6F ∷ 0x73 ∷ 0x74 ∷ 0x0A ∷ []
seen_line Recorded = 0x72 ∷ 0x65 ∷ 0x63 ∷ 0x6F ∷ 0x72 ∷ 0x64 ∷ 0x65 ∷ 0x64 ∷ 0x0A ∷ []

-- `ok`; `not read`
unfoldable pub ok_line : List ℕ
ok_line = 0x6F ∷ 0x6B ∷ 0x0A ∷ []

unfoldable pub not_read_line : List ℕ
not_read_line = 0x6E ∷ 0x6F ∷ 0x74 ∷ 0x20 ∷ 0x72 ∷ 0x65 ∷ 0x61 ∷ 0x64 ∷ 0x0A ∷ []

-- an answer of the box, and the reply buffer after it
unfoldable pub printed : Result Answer Refusal → List ℕ → List ℕ
printed (Err r) reply = refused_line (number_of r)
printed (Ok (Reply n)) reply = hex_line (take n reply)
printed (Ok (Sighted w)) reply = seen_line w
printed (Ok Done) reply = ok_line

-- the longest line: the digits of the longest reply, and LF
abbrev pub longest_line : ℕ
longest_line = 2 * reply_room + 1

-- any line but a reply's has room in so many octets
abbrev pub word_room : ℕ
word_room = 14

-- a text stands at the start of the output, whole, and the octets after it stay
pub record Printed (t out : List ℕ) (n : ℕ) (out' : List ℕ) : Type 0 where
  pub count-is : n ≡ length t
  pub output-is : out' ≡ put 0 t out
