-- What a call owes its reader that writes octets into a lent output. Assumes nothing.
use Rattle.std.specs.Prelude.{ℕ, ◌≡◌, List, length, Result, Ok, Err}
use Rattle.std.proofs.Math.Option.{Option, none, some}
use Rattle.octets.specs.Parts.{put}
use Rattle.frame.specs.declared.Refusal.{Refusal}
use Rattle.frame.specs.Refusal.{Refuses}

-- not refused: the octets stand at the start of the output, and those after them stay; refused: nothing is written
abbrev pub Outcome : Option ℕ → List ℕ → List ℕ → Result ℕ Refusal → List ℕ → Type 0
Outcome none t out a out' = (a ≡ Ok (length t)) × (out' ≡ put 0 t out)
Outcome (some n) t out a out' = Refuses Err n a × (out' ≡ out)

-- the first test that is given refuses with its number; else the octets t are written
pub record Wrote (refusal : Option ℕ) (t out : List ℕ) (a : Result ℕ Refusal) (out' : List ℕ) : Type 0 where
  pub outcome : Outcome refusal t out a out'
