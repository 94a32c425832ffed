-- Every call, refused or not, leaves the areas where they lie and the octets outside them as they were. Assumes nothing.
use Rattle.std.specs.Prelude.{Result}
use Prim.Native.Nat.{ℕ}
use mathlib.Core.List.{List}
use Rattle.frame.specs.declared.Refusal.{Refusal}
use Rattle.rules.specs.Box.{Box, Event, Answer as RuleAnswer, refused, reply, seen, ok}
use Rattle.store.specs.Untouched.{Untouched}
use Rattle.store.proofs.Untouched.{untouched-same}
use Rattle.events.specs.declared.Answer.{Answer}
use Rattle.events.specs.Happened.{Ended}
use Rattle.depot.specs.Called.{step_on, Called}

ended-alone : (t : RuleAnswer) (box : Box) (s out : List ℕ) (a : Result Answer Refusal) (s' out' : List ℕ) → Ended t box s out a s' out' → Untouched s s'
ended-alone (refused r) box s out a s' out' e = rw e.1.0 (untouched-same s)
ended-alone (reply t) box s out a s' out' e = e.2.alone
ended-alone (seen w) box s out a s' out' e = e.2.alone
ended-alone ok box s out a s' out' e = e.2.alone

pub call-alone : (e : Event) (s out : List ℕ) (a : Result Answer Refusal) (s' out' : List ℕ) → Called e s out a s' out' → Untouched s s'
call-alone e s out a s' out' c = ended-alone (step_on s e).answer (step_on s e).box s out a s' out' c.ended
