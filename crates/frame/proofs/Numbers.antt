-- A number of the paper is the number of one refusal. Assumes nothing.
use Prim.Native.Nat.{ℕ}
use mathlib.Core.Path.{◌≡◌, refl, sym, ap, ◌∙◌}
use mathlib.Core.List.{List, [], ◌∷◌, map}
use lib.ListN.{get_or}
use Rattle.frame.specs.declared.Refusal.{Refusal}
use Rattle.frame.specs.declared.Refusal.TheVariants.{Unsound, SmallBuffer, NoOctets, TooShort, TooLong, LengthDiffers, WrongCheck, NoDesk, OutOfRange, NoRoom, NotTheReply}
use Rattle.frame.specs.Refusal.{number_of, Refuses, test_order, place_in}

-- each of them, in the order of the tests
abbrev refusals : List Refusal
refusals = Unsound ∷ SmallBuffer ∷ NoOctets ∷ TooShort ∷ TooLong ∷ LengthDiffers ∷ WrongCheck ∷ NoDesk ∷ OutOfRange ∷ NoRoom ∷ NotTheReply ∷ []

pub order-of-all : map number_of refusals ≡ test_order
order-of-all = refl

-- the refusal of a number
abbrev refusal_of : ℕ → Refusal
refusal_of n = get_or refusals (place_in test_order n) Unsound

refusal-back : (r : Refusal) → refusal_of (number_of r) ≡ r
refusal-back Unsound = refl
refusal-back SmallBuffer = refl
refusal-back NoOctets = refl
refusal-back TooShort = refl
refusal-back TooLong = refl
refusal-back LengthDiffers = refl
refusal-back WrongCheck = refl
refusal-back NoDesk = refl
refusal-back OutOfRange = refl
refusal-back NoRoom = refl
refusal-back NotTheReply = refl

pub one_number : (r q : Refusal) → number_of r ≡ number_of q → r ≡ q
one_number r q e = sym (refusal-back r) ∙ ap refusal_of e ∙ refusal-back q

-- two refusals of one number are the same answer
pub refuses-once : {A : Type 0} (refusal : Refusal → A) (n : ℕ) (a b : A) → Refuses refusal n a → Refuses refusal n b → a ≡ b
refuses-once refusal n a b p q =
    p.answer-is ∙ ap refusal (one_number p.why q.why (p.number_is ∙ sym q.number_is)) ∙ sym q.answer-is

-- a refusal gives its own number
pub refuses : {A : Type 0} (refusal : Refusal → A) (r : Refusal) → Refuses refusal (number_of r) (refusal r)
refuses refusal r = record { why = r; number_is = refl; answer-is = refl }

-- the number of the refusal that was given
pub refuses-number : {why r : Refusal} {n : ℕ} → number_of why ≡ n → why ≡ r → n ≡ number_of r
refuses-number e same = sym e ∙ ap number_of same
