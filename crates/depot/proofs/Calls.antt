-- From the test of the store, and what the event did to one that is sound, to what a call owes. Assumes nothing.
use Rattle.std.specs.Prelude.{Result, Err}
use Prim.Native.Nat.{ℕ}
use mathlib.Core.Path.{◌≡◌, refl}
use mathlib.Core.Bool.{true, false}
use mathlib.Core.List.{List}
use Rattle.frame.specs.declared.Refusal.{Refusal}
use Rattle.frame.specs.declared.Refusal.TheVariants.{Unsound}
use Rattle.frame.proofs.Numbers.{refuses}
use Rattle.rules.specs.Box.{Event}
use Rattle.store.specs.Sound.{sound}
use Rattle.events.specs.declared.Answer.{Answer}
use Rattle.events.specs.Happened.{Happened}
use Rattle.depot.specs.Called.{step_on, Called}

pub unsound : (e : Event) (s out : List ℕ) → sound s ≡ false → Called e s out (Err Unsound) s out
unfolding step_on
unsound e s out q = record { ended = rw q (refuses Err Unsound, (refl, refl)) }

pub called : (e : Event) (s out : List ℕ) (a : Result Answer Refusal) (s' out' : List ℕ) → sound s ≡ true → Happened e s out a s' out' → Called e s out a s' out'
unfolding step_on
called e s out a s' out' q h = record { ended = rw q h.ended }
