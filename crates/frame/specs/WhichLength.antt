-- Which length is wrong, as an installer can tell it: by the number of octets received and the first three of them, from a table. Its rows
-- go by the first octet, its columns by the number of octets. Assumes nothing.
use Rattle.std.specs.Prelude.{ℕ, ◌+◌, ◌*◌, Bool, cond, ◌||◌, List, [], ◌∷◌, length, get_or, leb, eqb}
use Rattle.std.proofs.Math.Option.{Option, none, some}
use Rattle.frame.specs.declared.Kind.TheVariants.{Advanced}
use Rattle.frame.specs.declared.Way.{Way}
use Rattle.frame.specs.Shape.{shape_of, status_of}

-- this number; or 33 unless the length field says how many octets there are
pub data Cell : Type 0 where
  gives : ℕ → Cell
  field : Cell

-- the columns of a frame to the box: no octets, 1 to 4, 5 and 6, 7 to 255, 256 to the longest, above it. A reply's shortest lengths are an
-- octet more
unfoldable pub column_of : Way → ℕ → ℕ
column_of w n =
    cond (leb n 0) 0
    (cond (leb n (4 + status_of w)) 1
    (cond (leb n (6 + status_of w)) 2
    (cond (leb n 255) 3
    (cond (leb n (shape_of Advanced).longest) 4 5))))

-- the rows: a first octet of 2; another below 5, of a reply below 6, which is never the length of a standard frame; any other
abbrev pub advanced_row : List Cell
advanced_row = gives 3 ∷ gives 31 ∷ gives 31 ∷ field ∷ field ∷ gives 32 ∷ []

abbrev pub never_row : List Cell
never_row = gives 3 ∷ gives 31 ∷ gives 33 ∷ gives 33 ∷ gives 32 ∷ gives 32 ∷ []

abbrev pub standard_row : List Cell
standard_row = gives 3 ∷ gives 31 ∷ field ∷ field ∷ gives 32 ∷ gives 32 ∷ []

unfoldable pub row_of : Way → ℕ → List Cell
row_of w a = cond (eqb a 2) advanced_row (cond (leb a (4 + status_of w)) never_row standard_row)

-- the length field: the first octet, but after a 2 the next two, most significant first
unfoldable pub field_of : ℕ → ℕ → ℕ → ℕ
field_of a b c = cond (eqb a 2) (b * 256 + c) a

abbrev pub cell_gives : Cell → ℕ → ℕ → Option ℕ
cell_gives (gives k) said n = some k
cell_gives field said n = cond (eqb said n) none (some 33)

-- n octets that begin with a, b, c; an octet that is not there is given as 0
unfoldable pub which_length : Way → ℕ → ℕ → ℕ → ℕ → Option ℕ
which_length w n a b c = cell_gives (get_or (row_of w a) (column_of w n) field) (field_of a b c) n

-- the same of a list of octets
abbrev pub which_of : Way → List ℕ → Option ℕ
which_of w f = which_length w (length f) (get_or f 0 0) (get_or f 1 0) (get_or f 2 0)

-- ---- of the refusals of a call, those that speak of the length

abbrev pub is_of_length : ℕ → Bool
is_of_length n = eqb n 3 || eqb n 31 || eqb n 32 || eqb n 33

abbrev pub of_length : Option ℕ → Option ℕ
of_length none = none
of_length (some n) = cond (is_of_length n) (some n) none
