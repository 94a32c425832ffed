-- Numbers as octets, most significant first. Assumes nothing.
use Rattle.std.specs.Prelude.{ℕ, zero, suc, ◌+◌, ◌*◌, ◌/◌, ◌%◌, ◌^◌, ◌<◌, List, [], ◌∷◌, length, get_or}
use Rattle.octets.specs.Parts.{part}

-- the number that octets make
unfoldable pub number : List ℕ → ℕ
number [] = 0
number (x ∷ xs) = x * 256 ^ length xs + number xs

-- the low n octets of a number
unfoldable pub octets : ℕ → ℕ → List ℕ
octets zero x = []
octets (suc n) x = (x / 256 ^ n % 256) ∷ octets n x

-- the number that the two octets at a place make
unfoldable pub u16_at : ℕ → List ℕ → ℕ
u16_at at s = number (part at 2 s)

-- each is an octet, which a `&[u8]` tells of its list
abbrev pub Octets : List ℕ → Type 0
Octets xs = (i : ℕ) → get_or xs i 0 < 256
