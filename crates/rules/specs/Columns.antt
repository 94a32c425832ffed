-- What a spreadsheet makes of scan lines: at each tabulator a new column begins. Assumes nothing.
use Rattle.std.specs.Prelude.{ℕ, ◌≡◌, cond, List, [], ◌∷◌, ◌++◌, eqb}
use Rattle.octets.specs.Each.{All}
use Rattle.octets.specs.Parts.{part}
use Rattle.rules.specs.Line.{hex}

-- that of ASCII
abbrev pub tabulator : ℕ
tabulator = 0x09

-- the columns of a text that goes on with a column which is begun
unfoldable pub in_columns_from : List ℕ → List ℕ → List (List ℕ)
in_columns_from begun [] = begun ∷ []
in_columns_from begun (c ∷ text) = cond (eqb c tabulator) (begun ∷ in_columns_from [] text) (in_columns_from (begun ++ (c ∷ [])) text)

abbrev pub in_columns : List ℕ → List (List ℕ)
in_columns = in_columns_from []

-- no tabulator stands in it
abbrev pub Unbroken : List ℕ → Type 0
Unbroken = All (λ (c : ℕ). c ≡ tabulator → ⊥)

-- UID and timer of a record, as DB-USE 2 writes them
abbrev pub uid_digits : List ℕ → List ℕ
uid_digits r = hex (part 0 8 r)

abbrev pub timer_digits : List ℕ → List ℕ
timer_digits r = hex (part 8 4 r)
