-- What each call owes its reader: its answer, and what every lent octet then holds. Assumes nothing.
use Rattle.std.specs.Prelude.{ℕ, ◌≡◌, Bool, cond, not, List, [], ◌∷◌, length, eqb, Result, Ok, Err}
use Rattle.std.proofs.Math.Option.{Option, none, some}
use Rattle.octets.specs.Tests.{first}
use Rattle.frame.specs.declared.Refusal.{Refusal}
use Rattle.frame.specs.Refusal.{Refuses}
use Rattle.rules.specs.Box.{Event, refused, Step, step}
use Rattle.store.specs.Layout.{store_size}
use Rattle.store.specs.View.{view}
use Rattle.store.specs.Sound.{sound}
use Rattle.fresh.specs.Fresh.{fresh_store}
use Rattle.events.specs.declared.Answer.{Answer}
use Rattle.events.specs.declared.Answer.TheVariants.{Done}
use Rattle.events.specs.Happened.{Ended}

-- a store that is not sound is refused with 1, whatever the event
unfoldable pub step_on : List ℕ → Event → Step
step_on s e = cond (sound s) (step (view s) e) record { answer = refused 1; box = view s }

-- one relation for all events: store and output before, the answer, store and output after
pub record Called (e : Event) (s out : List ℕ) (a : Result Answer Refusal) (s' out' : List ℕ) : Type 0 where
  pub ended : Ended (step_on s e).answer (step_on s e).box s out a s' out'

-- the test of a store, which only reads, can meet 1
unfoldable pub test_refusals : List ℕ → List (ℕ × Bool)
test_refusals s = (1, not (sound s)) ∷ []

abbrev pub TestedOf : Option ℕ → Result Answer Refusal → Type 0
TestedOf none a = a ≡ Ok Done
TestedOf (some n) a = Refuses Err n a

pub record Tested (s : List ℕ) (a : Result Answer Refusal) : Type 0 where
  pub tested : TestedOf (first (test_refusals s)) a

-- making a fresh store can meet 1, for size only
unfoldable pub fresh_refusals : List ℕ → List (ℕ × Bool)
fresh_refusals s = (1, not (eqb (length s) store_size)) ∷ []

-- a fresh store, octet for octet; a buffer that is refused is kept
abbrev pub MadeOf : Option ℕ → List ℕ → Result Answer Refusal → List ℕ → Type 0
MadeOf none s a s' = (a ≡ Ok Done) × (s' ≡ fresh_store)
MadeOf (some n) s a s' = Refuses Err n a × (s' ≡ s)

pub record Made (s : List ℕ) (a : Result Answer Refusal) (s' : List ℕ) : Type 0 where
  pub made : MadeOf (first (fresh_refusals s)) s a s'
