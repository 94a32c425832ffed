-- Areas that share no octet: area k has n k octets from at k on. Assumes nothing.
use Rattle.std.specs.Prelude.{ℕ, zero, suc, ◌+◌, List, [], ◌∷◌, Bool, ◌||◌, set, get_or, leb}
use Rattle.octets.specs.Tests.{every}

-- n octets from at on, and m from there on, share none
abbrev pub apartb : ℕ → ℕ → ℕ → ℕ → Bool
apartb at n there m = leb (at + n) there || leb (there + m) at

-- areas i and j share no octet; nor area j and one before it; nor two of the first m
abbrev pub pair_clear : (ℕ → ℕ) → (ℕ → ℕ) → ℕ → ℕ → Bool
pair_clear at n j i = apartb (at i) (n i) (at j) (n j)

abbrev pub clear_below : (ℕ → ℕ) → (ℕ → ℕ) → ℕ → Bool
clear_below at n j = every j (pair_clear at n j)

abbrev pub clear : ℕ → (ℕ → ℕ) → (ℕ → ℕ) → Bool
clear m at n = every m (clear_below at n)

-- f 0 to f (n - 1)
unfoldable pub upto : ℕ → (ℕ → List ℕ) → List (List ℕ)
upto zero f = []
upto (suc n) f = f 0 ∷ upto n (λ k. f (suc k))

-- the list with g done to element k
abbrev pub change : ℕ → (List ℕ → List ℕ) → List (List ℕ) → List (List ℕ)
change k g all = set all k (g (get_or all k []))
