-- Parts of a buffer: read by `part`, written by `put`, cut into `rows`. Callers go by the laws of proofs/ and not by the clauses.
-- Assumes nothing.
use Rattle.std.specs.Prelude.{ℕ, zero, suc, ◌+◌, ◌≤◌, ◌⊎◌, Bool, true, false, ◌&&◌, List, [], ◌∷◌, ◌++◌, eqb, take, drop, set}

-- n octets of s from at on
unfoldable pub part : ℕ → ℕ → List ℕ → List ℕ
part at n s = take n (drop at s)

-- s with xs written from at on; what would fall past the end is dropped
unfoldable pub put : ℕ → List ℕ → List ℕ → List ℕ
put at [] s = s
put at (x ∷ xs) s = put (suc at) xs (set s at x)

-- n octets from at on, and m from there on, share none
abbrev pub Apart : ℕ → ℕ → ℕ → ℕ → Type 0
Apart at n there m = (at + n ≤ there) ⊎ (there + m ≤ at)

-- whether two lists are equal
unfoldable pub alike : List ℕ → List ℕ → Bool
alike [] [] = true
alike [] (y ∷ ys) = false
alike (x ∷ xs) [] = false
alike (x ∷ xs) (y ∷ ys) = eqb x y && alike xs ys

-- the first m rows of n octets
unfoldable pub rows : ℕ → ℕ → List ℕ → List (List ℕ)
rows zero n s = []
rows (suc m) n s = take n s ∷ rows m n (drop n s)

-- one after the other
unfoldable pub joined : List (List ℕ) → List ℕ
joined [] = []
joined (e ∷ es) = e ++ joined es
