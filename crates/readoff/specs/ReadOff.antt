-- What was fed of a line is read off and answered. Assumes nothing.
use Rattle.std.specs.Prelude.{ℕ, ◌≤◌, List, length}
use Rattle.text.specs.Listing.{line_of}
use Rattle.feeding.specs.declared.Begun.{Begun}
use Rattle.feeding.specs.Feeding.{Fed, read_off, held_room}
use Rattle.answering.specs.Answered.{Answered}

-- what was read is answered; and where a text was fed into a buffer that has so many octets, its line is answered, however long it is
pub record ReadOff (at : Begun) (held s reply out : List ℕ) (n : ℕ) (s' reply' out' : List ℕ) : Type 0 where
  pub read : Answered (read_off at held) s reply out n s' reply' out'
  pub whole : (text : List ℕ) → Fed text at held → held_room ≤ length held → Answered (line_of text) s reply out n s' reply' out'
