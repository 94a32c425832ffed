-- Hex digits in either case, and the octets that they make two by two; numbers in decimal. Assumes nothing.
use Rattle.std.specs.Prelude.{ℕ, zero, suc, ◌+◌, ◌-◌, ◌*◌, ◌/◌, ◌%◌, Bool, cond, ◌&&◌, ◌||◌, List, [], ◌∷◌, ◌++◌, leb, ltb}

unfoldable pub between : ℕ → ℕ → ℕ → Bool
between low high c = leb low c && leb c high

abbrev pub decimal : ℕ → Bool
decimal c = between 0x30 0x39 c

abbrev pub capital : ℕ → Bool
capital c = between 0x41 0x46 c

abbrev pub small : ℕ → Bool
small c = between 0x61 0x66 c

unfoldable pub is_hex : ℕ → Bool
is_hex c = decimal c || capital c || small c

-- 0 for what is no digit
unfoldable pub value_of : ℕ → ℕ
value_of c = cond (decimal c) (c - 0x30) (cond (capital c) (c - 0x37) (cond (small c) (c - 0x57) 0))

-- two digits an octet; a last digit without a second makes none
unfoldable pub octets_of : List ℕ → List ℕ
octets_of [] = []
octets_of (h ∷ []) = []
octets_of (h ∷ l ∷ s) = (value_of h * 16 + value_of l) ∷ octets_of s

-- the last k decimal digits of a number, the most significant first
unfoldable pub last_digits : ℕ → ℕ → List ℕ
last_digits zero n = []
last_digits (suc k) n = last_digits k (n / 10) ++ ((0x30 + n % 10) ∷ [])

-- how many decimal digits a number below 100000 has
unfoldable pub places_of : ℕ → ℕ
places_of n = cond (ltb n 10) 1 (cond (ltb n 100) 2 (cond (ltb n 1000) 3 (cond (ltb n 10000) 4 5)))

-- a number in decimal, without leading zeros
unfoldable pub decimal_of : ℕ → List ℕ
decimal_of n = last_digits (places_of n) n

-- the number that decimal digits say, behind a number that those before them said
unfoldable pub number_said : ℕ → List ℕ → ℕ
number_said n [] = n
number_said n (c ∷ s) = number_said (n * 10 + (c - 0x30)) s
