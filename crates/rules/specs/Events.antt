-- What of a history one desk sees. Assumes nothing.
use Rattle.std.specs.Prelude.{ℕ, Bool, true, cond, ◌&&◌, List, [], ◌∷◌, eqb, ltb}
use Rattle.octets.specs.Tests.{first, none_given}
use Rattle.frame.specs.declared.Way.TheVariants.{Request}
use Rattle.frame.specs.Shape.{reply_room}
use Rattle.frame.specs.Judged.{faults}
use Rattle.rules.specs.Box.{Box, Event, frame, sighting, tick, Answer, request, step}

-- a desk's events: frames that are well-formed and addressed to it, sightings at it, ticks
unfoldable pub concerns : ℕ → Event → Bool
concerns n (frame s room) = none_given (first (faults Request s)) && eqb (request s).address n
concerns n (sighting m uid mask) = eqb m n
concerns n tick = true

-- of the room that is lent for a reply a desk sees whether it is enough
unfoldable pub as_seen : Event → Event
as_seen (frame s room) = frame s (cond (ltb room reply_room) 0 reply_room)
as_seen (sighting m uid mask) = sighting m uid mask
as_seen tick = tick

-- a desk's events of a history, in order
unfoldable pub history : ℕ → List Event → List Event
history n [] = []
history n (e ∷ es) = cond (concerns n e) (as_seen e ∷ history n es) (history n es)

-- the answers to a desk's events
unfoldable pub answers_of : ℕ → Box → List Event → List Answer
answers_of n box [] = []
answers_of n box (e ∷ es) = let s = step box e in let rest = answers_of n s.box es in cond (concerns n e) (s.answer ∷ rest) rest
