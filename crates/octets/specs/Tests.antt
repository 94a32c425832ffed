-- Tests: one after the other, of every number below a bound, of each element of a list. Assumes nothing.
use Rattle.std.specs.Prelude.{ℕ, zero, suc, Bool, true, false, cond, ◌&&◌, List, [], ◌∷◌}
use Rattle.std.proofs.Math.Option.{Option, none, some}

-- tests run in order, each with what it gives where it holds: the first that is given
unfoldable pub first : {A : Type 0} → List (A × Bool) → Option A
first [] = none
first (t ∷ ts) = cond t.1 (some t.0) (first ts)

unfoldable pub none_given : {A : Type 0} → Option A → Bool
none_given none = true
none_given (some x) = false

-- f holds of each number below m
unfoldable pub every : ℕ → (ℕ → Bool) → Bool
every zero f = true
every (suc k) f = f k && every k f

-- f holds of each element
unfoldable pub all_of : {A : Type 0} → (A → Bool) → List A → Bool
all_of f [] = true
all_of f (x ∷ xs) = f x && all_of f xs
