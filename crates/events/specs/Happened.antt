-- What an event does to a sound store, and what is answered. Assumes nothing.
use Rattle.std.specs.Prelude.{ℕ, ◌≡◌, true, List, length, Result, Ok, Err}
use Rattle.octets.specs.Parts.{put}
use Rattle.frame.specs.declared.Refusal.{Refusal}
use Rattle.frame.specs.Refusal.{Refuses}
use Rattle.rules.specs.Box.{Box, Event, Answer as RuleAnswer, refused, reply, seen, ok, step}
use Rattle.store.specs.View.{view}
use Rattle.store.specs.Sound.{sound}
use Rattle.store.specs.Untouched.{Untouched}
use Rattle.events.specs.declared.Answer.{Answer}
use Rattle.events.specs.declared.Answer.TheVariants.{Reply, Sighted, Done}

-- a refused call leaves store and output octet for octet
abbrev pub Kept : List ℕ → List ℕ → List ℕ → List ℕ → Type 0
Kept s out s' out' = (s' ≡ s) × (out' ≡ out)

-- a call that is not refused leaves a sound store that says the next box, with its areas where they were, and every octet outside header,
-- rows and entries as before
pub record Next (box : Box) (s s' : List ℕ) : Type 0 where
  pub still : sound s' ≡ true
  pub says : view s' ≡ box
  pub alone : Untouched s s'

-- the rules' answer, as the call gives it: a reply stands at the start of the output, and the octets after it stay
abbrev pub Ended : RuleAnswer → Box → List ℕ → List ℕ → Result Answer Refusal → List ℕ → List ℕ → Type 0
Ended (refused n) box s out a s' out' = Refuses Err n a × Kept s out s' out'
Ended (reply t) box s out a s' out' = (a ≡ Ok (Reply (length t))) × (out' ≡ put 0 t out) × Next box s s'
Ended (seen w) box s out a s' out' = (a ≡ Ok (Sighted w)) × (out' ≡ out) × Next box s s'
Ended ok box s out a s' out' = (a ≡ Ok Done) × (out' ≡ out) × Next box s s'

-- the rules' step of the box that the store says
pub record Happened (e : Event) (s out : List ℕ) (a : Result Answer Refusal) (s' out' : List ℕ) : Type 0 where
  pub ended : Ended (step (view s) e).answer (step (view s) e).box s out a s' out'
