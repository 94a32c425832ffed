-- A line that is read octet by octet in bounded memory: what is held of it, and what that says. Assumes nothing.
use Rattle.std.specs.Prelude.{ℕ, ◌+◌, ◌*◌, min, ◌≡◌, true, false, cond, not, ◌||◌, List, [], ◌∷◌, ◌++◌, length, take, set, ltb}
use Rattle.octets.specs.Tests.{all_of}
use Rattle.frame.specs.Shape.{reply_room}
use Rattle.feeding.specs.declared.Begun.{Begun}
use Rattle.digits.specs.Digits.{is_hex, octets_of}
use Rattle.text.specs.Listing.{Line, frame, not_read, odd, other_line}

-- the first octets of a text are held, as many as there is room for; of all of them is known whether they are more, whether their
-- number is odd, and whether one is no hex digit
pub record Fed (text : List ℕ) (at : Begun) (held : List ℕ) : Type 0 where
  pub count-is : at.held ≡ min (length text) (length held)
  pub held-is : take at.held held ≡ take (length held) text
  pub over-is : at.over ≡ ltb (length held) (length text)
  pub odd_is : at.odd ≡ odd text
  pub bad-is : at.bad ≡ not (all_of is_hex text)

-- before the first octet of a line
abbrev pub none_fed : Begun
none_fed = record { held = 0; over = false; odd = false; bad = false }

pub record Starts (r : Begun) : Type 0 where
  pub state-is : r ≡ none_fed
  pub fed : (held : List ℕ) → Fed [] r held

-- the state after one octet more
unfoldable pub fed_one : ℕ → Begun → ℕ → Begun
fed_one room at c =
    record {
      held = cond (ltb at.held room) (at.held + 1) at.held;
      over = cond (ltb at.held room) at.over true;
      odd = not at.odd;
      bad = at.bad || not (is_hex c);
    }

-- an octet is fed: the state and the buffer after it, and that they are those of the text with this octet
pub record Feeds (c : ℕ) (at : Begun) (held : List ℕ) (r : Begun) (held' : List ℕ) : Type 0 where
  pub state-is : r ≡ fed_one (length held) at c
  pub buffer-is : held' ≡ set held at.held c
  pub fed : (text : List ℕ) → Fed text at held → Fed (text ++ (c ∷ [])) r held'

-- the line that state and buffer say
unfoldable pub read_off : Begun → List ℕ → Line
read_off at held =
    cond at.bad
    (cond at.over not_read (other_line (take at.held held)))
    (cond at.odd not_read (frame (octets_of (take at.held held))))

-- so many octets of a line are enough, however long it is: the digits of a frame that is longer than any may be
abbrev pub held_room : ℕ
held_room = 2 * (reply_room + 1)
