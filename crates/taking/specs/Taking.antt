-- An input is taken in lent parts: what a call takes of its part, and how the input ends. Assumes nothing.
use Rattle.std.specs.Prelude.{ℕ, suc, ◌+◌, ◌≡◌, Bool, cond, List, [], ◌∷◌, length, leb}
use Rattle.frame.specs.Shape.{reply_room}
use Rattle.text.specs.Listing.{longest_line}
use Rattle.feeding.specs.declared.Begun.{Begun}
use Rattle.feeding.specs.Feeding.{held_room}
use Rattle.turning.specs.Turning.{State, Takes, Ends}

-- whether the output has room for any line more
unfoldable pub roomy : State → Bool
roomy a = leb (a.written + longest_line) (length a.out)

-- octets are taken until the part ends, or until the output might have no room for the next line: how many, and the state then
unfoldable pub Took : List ℕ → State → ℕ → State → Type 0
Took [] a n b = (n ≡ 0) × (b ≡ a)
Took (c ∷ part) a n b =
    cond (roomy a) ((m : State) × (k : ℕ) × (n ≡ suc k) × Takes c a m × Took part m k b) ((n ≡ 0) × (b ≡ a))

-- ---- the calls, whose buffers are arrays

-- the room for what is to be printed: that of many lines
abbrev pub out_room : ℕ
out_room = 65536

-- as the arrays' types say, so that a call has no test of room and no refusal of its own
pub record Sized (held reply out : List ℕ) : Type 0 where
  pub held-size : length held ≡ held_room
  pub reply-size : length reply ≡ reply_room
  pub out-size : length out ≡ out_room

pub record TookPart (part : List ℕ) (a : State) (n : ℕ) (b : State) : Type 0 where
  pub sized : Sized a.held a.reply a.out
  pub took : Took part a n b

pub record Finished (line : Begun) (held s reply out : List ℕ) (n : ℕ) (s' reply' out' : List ℕ) : Type 0 where
  pub sized : Sized held reply out
  pub ends : Ends line held s reply out n s' reply' out'
