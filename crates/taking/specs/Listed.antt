-- A whole run: a store made fresh, an input taken in any parts, each output printed before the next call, and the end. Nothing is known
-- of a call but what it promises. Assumes nothing.
use Rattle.std.specs.Prelude.{ℕ, ◌≡◌, true, List, [], ◌∷◌, ◌++◌, length, take, Ok}
use Rattle.frame.specs.Shape.{reply_room}
use Rattle.store.specs.View.{view}
use Rattle.store.specs.Sound.{sound}
use Rattle.events.specs.declared.Answer.TheVariants.{Done}
use Rattle.depot.specs.Called.{Made}
use Rattle.text.specs.Whole.{lines_from, printed_from, listing}
use Rattle.feeding.specs.Feeding.{Fed, Starts, held_room}
use Rattle.turning.specs.Turning.{State, lent}
use Rattle.taking.specs.Taking.{TookPart, Finished}

-- ---- in the midst of it

-- what was written since the output was lent
abbrev pub waits : State → List ℕ
waits a = take a.written a.out

-- an input was taken, and so much was printed before the output was lent: whatever follows, the whole prints this, what waits, and then
-- what the store and the line that is begun give
pub record Listening (input printed : List ℕ) (a : State) : Type 0 where
  pub text : List ℕ
  pub fed : Fed text a.line a.held
  pub still : sound a.store ≡ true
  pub onward : (more : List ℕ) → listing (input ++ more) ≡ printed ++ waits a ++ printed_from (view a.store) (lines_from text more)
  pub held-size : length a.held ≡ held_room
  pub reply-size : length a.reply ≡ reply_room

-- ---- from the start to the end

-- the output is printed, and another lent
abbrev pub anew : State → List ℕ → State
anew a out = lent a.line 0 a.held a.store a.reply out

-- a call: what it was lent of the input, the output, how much it took, and the state after it
pub record Turn : Type 0 where
  pub part : List ℕ
  pub out : List ℕ
  pub taken : ℕ
  pub after : State

unfoldable pub Ran : State → List Turn → State → Type 0
Ran a [] b = b ≡ a
Ran a (t ∷ ts) b = TookPart t.part (anew a t.out) t.taken t.after × Ran t.after ts b

-- the octets that were taken, and those that were printed
unfoldable pub heard : List Turn → List ℕ
heard [] = []
heard (t ∷ ts) = take t.taken t.part ++ heard ts

unfoldable pub sent : List Turn → List ℕ
sent [] = []
sent (t ∷ ts) = waits t.after ++ sent ts

-- a whole run: what it took, and what it printed
pub record Listed (input printed : List ℕ) : Type 0 where
  pub buffer : List ℕ
  pub first : State
  pub made : Made buffer (Ok Done) first.store
  pub starts : Starts first.line
  pub turns : List Turn
  pub last : State
  pub ran : Ran first turns last
  -- the output of the end, as it was lent, and what the end left
  pub out : List ℕ
  pub count : ℕ
  pub store' : List ℕ
  pub reply' : List ℕ
  pub out' : List ℕ
  pub finished : Finished last.line last.held last.store last.reply out count store' reply' out'
  pub input-is : input ≡ heard turns
  pub printed-is : printed ≡ sent turns ++ take count out'
