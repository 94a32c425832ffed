-- The listing as a whole: what an input prints, by the rules alone. Assumes nothing.
use Rattle.std.specs.Prelude.{ℕ, cond, List, [], ◌∷◌, ◌++◌, eqb}
use Rattle.frame.specs.Shape.{reply_room}
use Rattle.rules.specs.Box.{Box, fresh_box, Event, Answer, refused, reply, seen, ok, step}
use Rattle.text.specs.Listing.{Line, frame, sighting, tick, not_read, line_of, refused_line, hex_line, seen_line, ok_line, not_read_line}

-- ---- the lines of an input, each without its LF

abbrev pub lf : ℕ
lf = 0x0A

-- a last line without LF that is not empty is a line
unfoldable pub last_line : List ℕ → List (List ℕ)
last_line [] = []
last_line (c ∷ begun) = (c ∷ begun) ∷ []

-- the lines of an input that goes on with a line which is begun
unfoldable pub lines_from : List ℕ → List ℕ → List (List ℕ)
lines_from begun [] = last_line begun
lines_from begun (c ∷ input) = cond (eqb c lf) (begun ∷ lines_from [] input) (lines_from (begun ++ (c ∷ [])) input)

-- ---- what a line prints

-- the reply in capital hex, `refused N`, `ok`, `recorded`, `ignored N`, `lost`
unfoldable pub answer_line : Answer → List ℕ
answer_line (refused n) = refused_line n
answer_line (reply t) = hex_line t
answer_line (seen w) = seen_line w
answer_line ok = ok_line

-- what a line prints, and the box after it
pub record Said : Type 0 where
  pub text : List ℕ
  pub box : Box

unfoldable pub answer_to : Box → Event → Said
answer_to box e = let s = step box e in record { text = answer_line s.answer; box = s.box }

-- a frame's reply has its room; a line that is not read leaves the box as it is
unfoldable pub said : Box → Line → Said
said box (frame f) = answer_to box (Event.frame f reply_room)
said box (sighting desk uid mask) = answer_to box (Event.sighting desk uid mask)
said box tick = answer_to box Event.tick
said box not_read = record { text = not_read_line; box = box }

-- ---- what lines print, one after the other

unfoldable pub printed_from : Box → List (List ℕ) → List ℕ
printed_from box [] = []
printed_from box (l ∷ ls) = let s = said box (line_of l) in s.text ++ printed_from s.box ls

-- the program works on a fresh box
unfoldable pub listing : List ℕ → List ℕ
listing input = printed_from fresh_box (lines_from [] input)
