-- What a call answers, beside what the rules answer. Assumes nothing.
use Rattle.std.specs.Prelude.{ℕ, ◌≡◌, Bool, true, false, cond, List, [], ◌∷◌, ◌++◌, length, take, Result, Ok, Err}
use Rattle.std.proofs.Math.Option.{Option, none, some}
use Rattle.octets.specs.Parts.{put}
use Rattle.frame.specs.declared.Refusal.{Refusal}
use Rattle.frame.specs.Refusal.{number_of, Refuses}
use Rattle.rules.specs.Box.{Event, frame, sighting, tick, Answer as RuleAnswer, refused, reply, seen, ok, frame_refusals, sighting_refusals}
use Rattle.rules.specs.Events.{concerns}
use Rattle.events.specs.declared.Answer.{Answer}
use Rattle.events.specs.declared.Answer.TheVariants.{Reply, Sighted, Done}
use Rattle.depot.specs.Called.{test_refusals}
use Rattle.demands.specs.History.{Deed, event_of, lent_to}

-- ---- what a caller hears, in the rules' words: a refusal by its number, a reply by its octets

abbrev pub heard : Result Answer Refusal → List ℕ → RuleAnswer
heard (Err r) out = refused (number_of r)
heard (Ok (Reply n)) out = reply (take n out)
heard (Ok (Sighted w)) out = seen w
heard (Ok Done) out = ok

-- the number of a refusal
abbrev pub number_heard : RuleAnswer → Option ℕ
number_heard (refused n) = some n
number_heard (reply t) = none
number_heard (seen w) = none
number_heard ok = none

-- ---- demand 1: the tests of each call, in their order, and what it answers where none of them is given

-- after that of the store frames can meet 2, 3, 31, 32, 33, 4, 5; sightings 5, 6; ticks none
unfoldable pub refusals_of : Event → List (ℕ × Bool)
refusals_of (frame f room) = frame_refusals f room
refusals_of (sighting n uid mask) = sighting_refusals n mask
refusals_of tick = []

unfoldable pub tests_of : List ℕ → Event → List (ℕ × Bool)
tests_of s e = test_refusals s ++ refusals_of e

-- a frame is answered by a reply, a sighting by what it came to, a tick by ok; or the call is refused
unfoldable pub of_its_kind : Event → RuleAnswer → Bool
of_its_kind e (refused n) = true
of_its_kind (frame f room) (reply t) = true
of_its_kind (frame f room) (seen w) = false
of_its_kind (frame f room) ok = false
of_its_kind (sighting m uid mask) (reply t) = false
of_its_kind (sighting m uid mask) (seen w) = true
of_its_kind (sighting m uid mask) ok = false
of_its_kind tick (reply t) = false
of_its_kind tick (seen w) = false
of_its_kind tick ok = true

-- ---- demand 2: the rules' answer, as the call gives it; a reply stands at the start of the output, and the octets after it stay

abbrev pub Gave : RuleAnswer → Deed → Type 0
Gave (refused n) d = Refuses Err n d.answer × (d.output ≡ lent_to d.call)
Gave (reply t) d = (d.answer ≡ Ok (Reply (length t))) × (d.output ≡ put 0 t (lent_to d.call))
Gave (seen w) d = (d.answer ≡ Ok (Sighted w)) × (d.output ≡ lent_to d.call)
Gave ok d = (d.answer ≡ Ok Done) × (d.output ≡ lent_to d.call)

-- one after the other
unfoldable pub GaveAll : List RuleAnswer → List Deed → Type 0
GaveAll [] [] = Unit {0}
GaveAll [] (d ∷ ds) = ⊥
GaveAll (a ∷ more) [] = ⊥
GaveAll (a ∷ more) (d ∷ ds) = Gave a d × GaveAll more ds

-- ---- demand 3: what a desk hears of a history

abbrev pub heard_of : Deed → RuleAnswer
heard_of d = heard d.answer d.output

-- the answers to its events
unfoldable pub heard_by : ℕ → List Deed → List RuleAnswer
heard_by n [] = []
heard_by n (d ∷ ds) = cond (concerns n (event_of d.call)) (heard_of d ∷ heard_by n ds) (heard_by n ds)
