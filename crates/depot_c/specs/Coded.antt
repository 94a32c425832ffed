-- What each call of the box owes its reader: the number of an answer, and what every lent octet then holds. Assumes nothing.
use Rattle.std.specs.Prelude.{ℕ, ◌+◌, ◌≡◌, List, Result, Ok, Err}
use Rattle.frame.specs.declared.Refusal.{Refusal}
use Rattle.frame.specs.Refusal.{number_of}
use Rattle.rules.specs.Box.{Event}
use Rattle.events.specs.declared.Answer.{Answer}
use Rattle.events.specs.declared.Answer.TheVariants.{Reply, Sighted, Done}
use Rattle.depot.specs.Called.{Called, Made, Tested}
use Rattle.codes.specs.Codes.{done, written, seen_code}

-- the number of an answer of the box
abbrev pub code_of : Result Answer Refusal → ℕ
code_of (Ok Done) = done.from
code_of (Err r) = number_of r
code_of (Ok (Sighted w)) = seen_code w
code_of (Ok (Reply n)) = written.from + n

-- the number of an answer that `Called` allows, with store and output before and after
pub record CalledAs (e : Event) (s out : List ℕ) (n : ℕ) (s' out' : List ℕ) : Type 0 where
  pub answer : Result Answer Refusal
  pub code : n ≡ code_of answer
  pub called : Called e s out answer s' out'

-- a fresh store
pub record MadeAs (s : List ℕ) (n : ℕ) (s' : List ℕ) : Type 0 where
  pub answer : Result Answer Refusal
  pub code : n ≡ code_of answer
  pub made : Made s answer s'

-- whether a store is sound
pub record TestedAs (s : List ℕ) (n : ℕ) : Type 0 where
  pub answer : Result Answer Refusal
  pub code : n ≡ code_of answer
  pub tested : Tested s answer
