-- What is found in octets: a refusal by its number, or what they say. Assumes nothing.
use Rattle.std.specs.Prelude.{ℕ, Result, Ok, Err}
use Rattle.std.proofs.Math.Option.{Option, none, some}
use Rattle.frame.specs.declared.Refusal.{Refusal}
use Rattle.frame.specs.Refusal.{number_of}

pub data Finding (A : Type 0) : Type 0 where
  refused : ℕ → Finding A
  found : A → Finding A

-- refused where a test gave a number
abbrev pub finding : {A : Type 0} → Option ℕ → A → Finding A
finding none a = found a
finding (some n) a = refused n

-- the number of a refusal
abbrev pub number_in : {A : Type 0} → Finding A → Option ℕ
number_in (refused n) = some n
number_in (found a) = none

-- what the code's answer says of it
abbrev pub verdict_of : {A : Type 0} → Result A Refusal → Finding A
verdict_of (Ok a) = found a
verdict_of (Err r) = refused (number_of r)
