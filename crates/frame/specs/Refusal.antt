-- The paper's numbers of the refusals, of the whole product. Assumes nothing.
use Rattle.std.specs.Prelude.{ℕ, suc, ◌≡◌, Bool, true, cond, ◌&&◌, List, [], ◌∷◌, map, leb, eqb}
use Rattle.frame.specs.declared.Refusal.{Refusal}
use Rattle.frame.specs.declared.Refusal.TheVariants.{Unsound, SmallBuffer, NoOctets, TooShort, TooLong, LengthDiffers, WrongCheck, NoDesk, OutOfRange, NoRoom, NotTheReply}

-- the paper's number of a refusal
abbrev pub number_of : Refusal → ℕ
-- store of wrong size or not sound
number_of Unsound = 1
-- reply buffer shorter than the longest reply
number_of SmallBuffer = 2
-- no octets at all
number_of NoOctets = 3
-- shorter than the kind allows
number_of TooShort = 31
-- longer
number_of TooLong = 32
-- length field differs from the length received
number_of LengthDiffers = 33
-- CRC wrong
number_of WrongCheck = 4
-- desk above 7
number_of NoDesk = 5
-- argument out of range
number_of OutOfRange = 6
-- the output has too little room
number_of NoRoom = 7
-- a sound frame that is not the reply to the request
number_of NotTheReply = 8

-- the answer is a refusal, and its number is n
pub record Refuses {A : Type 0} (refusal : Refusal → A) (n : ℕ) (answer : A) : Type 0 where
  pub why : Refusal
  pub number_is : number_of why ≡ n
  pub answer-is : answer ≡ refusal why

-- the numbers of a list of tests, in their order
abbrev pub numbers_of : List (ℕ × Bool) → List ℕ
numbers_of ts = map (λ (t : ℕ × Bool). t.0) ts

-- rising numbers: none is less than the one before it
abbrev pub rises : List ℕ → Bool
rises [] = true
rises (n ∷ []) = true
rises (n ∷ m ∷ ns) = leb n m && rises (m ∷ ns)

-- the order in which tests run: by rising number, but 31, 32 and 33 stand where 3 stood
abbrev pub test_order : List ℕ
test_order = 1 ∷ 2 ∷ 3 ∷ 31 ∷ 32 ∷ 33 ∷ 4 ∷ 5 ∷ 6 ∷ 7 ∷ 8 ∷ []

-- how many numbers stand before n
abbrev pub place_in : List ℕ → ℕ → ℕ
place_in [] n = 0
place_in (m ∷ ms) n = cond (eqb m n) 0 (suc (place_in ms n))

-- tests run in that order: none stands before the one before it
abbrev pub in_order : List ℕ → Bool
in_order ns = rises (map (place_in test_order) ns)
