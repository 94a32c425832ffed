-- Histories of calls: a fresh store, and any calls after it, each related to its store before and after by the promise of `depot`.
-- Assumes nothing.
use Rattle.std.specs.Prelude.{ℕ, ◌≡◌, true, List, [], ◌∷◌, map, length, Result, Ok}
use Rattle.frame.specs.declared.Refusal.{Refusal}
use Rattle.octets.specs.Tests.{all_of}
use Rattle.rules.specs.Box.{Event}
use Rattle.rules.specs.Legal.{fitting}
use Rattle.events.specs.declared.Answer.{Answer}
use Rattle.events.specs.declared.Answer.TheVariants.{Done}
use Rattle.depot.specs.Called.{Called, Made}

-- what a caller hands over: a frame's octets and an output; a desk, a UID and a mask; nothing
pub data Call : Type 0 where
  frame : List ℕ → List ℕ → Call
  sighting : ℕ → ℕ → ℕ → Call
  tick : Call

-- the event that it is, and the output that is lent
abbrev pub event_of : Call → Event
event_of (frame f out) = Event.frame f (length out)
event_of (sighting desk uid mask) = Event.sighting desk uid mask
event_of tick = Event.tick

abbrev pub lent_to : Call → List ℕ
lent_to (frame f out) = out
lent_to (sighting desk uid mask) = []
lent_to tick = []

-- a call that was made: what it answered, and what its output then held
pub record Deed : Type 0 where
  pub call : Call
  pub answer : Result Answer Refusal
  pub output : List ℕ

abbrev pub events_of : List Deed → List Event
events_of ds = map (λ (d : Deed). event_of d.call) ds

-- one call after the other, from store s to store s'': nothing is known of a call but what it promises
unfoldable pub Ran : List ℕ → List Deed → List ℕ → Type 0
Ran s [] s'' = s'' ≡ s
Ran s (d ∷ ds) s'' = (s' : List ℕ) × Called (event_of d.call) s (lent_to d.call) d.answer s' d.output × Ran s' ds s''

-- a history: a buffer made fresh, then any calls. A frame is octets and a number fits its type, as Rattle's types say
pub record History (ds : List Deed) (s : List ℕ) : Type 0 where
  pub buffer : List ℕ
  pub fresh : List ℕ
  pub made : Made buffer (Ok Done) fresh
  pub typed : all_of fitting (events_of ds) ≡ true
  pub ran : Ran fresh ds s
