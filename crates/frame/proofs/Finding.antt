-- The tests behind what was found. Assumes nothing.
use Prim.Native.Nat.{ℕ}
use mathlib.Core.Path.{◌≡◌, refl}
use mathlib.Core.Option.{Option, none, some}
use native.Mathlib.Omega.{arith}
use Rattle.frame.specs.Finding.{refused, found, finding, number_in}

-- no test gave a number
pub finding-found : {A : Type 0} (o : Option ℕ) (a b : A) → found b ≡ finding o a → (o ≡ none) × (b ≡ a)
finding-found none a b e = (refl, cc)
finding-found (some n) a b e = let z : ◌≡◌ {A = ℕ} 0 1 = cc in absurd (omega arith)

-- the number is that of the test that gave it
pub finding-refused : {A : Type 0} (o : Option ℕ) (a : A) (n : ℕ) → refused n ≡ finding o a → o ≡ some n
finding-refused none a n e = let z : ◌≡◌ {A = ℕ} 0 1 = cc in absurd (omega arith)
finding-refused (some m) a n e = cc

pub number-found : {A : Type 0} (o : Option ℕ) (a : A) → number_in (finding o a) ≡ o
number-found none a = refl
number-found (some n) a = refl
