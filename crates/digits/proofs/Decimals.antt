-- A number in decimal: how many digits it has, and how they are written. Assumes nothing.
use Prim.Native.Nat.{ℕ, zero, suc, ◌+◌, ◌-◌, ◌*◌, ◌/◌, ◌%◌, ◌^◌, ◌≤◌, ◌<◌}
use mathlib.Core.Path.{◌≡◌, refl, ◌∙◌}
use mathlib.Core.Bool.{Bool, true, false, cond}
use mathlib.Core.Logic.{inr}
use mathlib.Core.List.{List, [], ◌∷◌, ◌++◌}
use native.Mathlib.Nat.{pow-suc, div-lt_iff_lt-mul}
use native.Mathlib.Omega.{arith}
use borrow.Author.Tests.{ltb-true, ltb-false}
use lib.Dec.{ltb, lit<}
use lib.ListN.{length, set, length-append}
use Rattle.octets.specs.Parts.{put}
use Rattle.octets.proofs.Puts.{put-append, put-comm, put_one}
use Rattle.digits.specs.Digits.{last_digits, places_of, decimal_of, number_said}

-- no leading zeros: 0, 9, 10, 255, 65535
pub samples : (decimal_of 0 ≡ (0x30 ∷ [])) × (decimal_of 9 ≡ (0x39 ∷ [])) × (decimal_of 10 ≡ (0x31 ∷ 0x30 ∷ [])) × (decimal_of 255 ≡ (0x32 ∷ 0x35 ∷ 0x35 ∷ []))
    × (decimal_of 65535 ≡ (0x36 ∷ 0x35 ∷ 0x35 ∷ 0x33 ∷ 0x35 ∷ []))
unfolding decimal_of places_of last_digits
samples = (refl, refl, refl, refl, refl)

-- ---- how many digits

pub places-most : (n : ℕ) → places_of n ≤ 5
unfolding places_of
places-most n = one (ltb n 10) (ltb n 100) (ltb n 1000) (ltb n 10000)
  where
    one : (a b c d : Bool) → cond a 1 (cond b 2 (cond c 3 (cond d 4 5))) ≤ 5
    one true b c d = omega arith
    one false true c d = omega arith
    one false false true d = omega arith
    one false false false true = omega arith
    one false false false false = omega arith

last-length : (k n : ℕ) → length (last_digits k n) ≡ k
unfolding last_digits
last-length zero n = refl
last-length (suc k) n = omega (arith, length-append (last_digits k (n / 10)) ((0x30 + n % 10) ∷ []), last-length k (n / 10))

pub decimal-length : (n : ℕ) → length (decimal_of n) ≡ places_of n
unfolding decimal_of
decimal-length n = last-length (places_of n) n

-- ---- as a loop writes them, the last first

pub last_none : (at i n : ℕ) (out : List ℕ) → i ≡ 0 → put at (last_digits i n) out ≡ out
unfolding put last_digits
last_none at zero n out h = refl
last_none at (suc i) n out h = absurd (omega arith)

pub last_more : (at i n : ℕ) (out : List ℕ) → 0 < i → put at (last_digits i n) out ≡ put at (last_digits (i - 1) (n / 10)) (set out (at + (i - 1)) (0x30 + n % 10))
unfolding last_digits
last_more at zero n out h = absurd (omega arith)
last_more at (suc i) n out h =
    let front = last_digits i (n / 10) in
    let back = (0x30 + n % 10) ∷ [] in
    let l : length front ≡ i = last-length i (n / 10) in
    let less : suc i - 1 ≡ i = omega arith in
    put-append at front back out ∙ put-comm (at + length front) back at front out (inr (omega arith)) ∙ rw (put_one, l, less)

-- ---- read back

said_more : (n : ℕ) (s : List ℕ) (c : ℕ) → number_said n (s ++ (c ∷ [])) ≡ number_said n s * 10 + (c - 0x30)
unfolding number_said
said_more n [] c = refl
said_more n (b ∷ s) c = said_more (n * 10 + (b - 0x30)) s c

said-last : (k n : ℕ) → n < 10 ^ k → number_said 0 (last_digits k n) ≡ n
unfolding number_said last_digits
said-last zero n h = omega arith
said-last (suc k) n h =
    let small : n / 10 < 10 ^ k = (div-lt_iff_lt-mul (lit< tt)).1 (rw pow-suc at h) in
    said_more 0 (last_digits k (n / 10)) (0x30 + n % 10) ∙ rw (said-last k (n / 10) small) (omega arith)

-- the digits say the number
pub decimal-said : (n : ℕ) → n < 100000 → number_said 0 (decimal_of n) ≡ n
unfolding decimal_of places_of
decimal-said n h = said-last (places_of n) n (fits (ltb n 10) (ltb n 100) (ltb n 1000) (ltb n 10000) refl refl refl refl)
  where
    fits : (a b c d : Bool) → ltb n 10 ≡ a → ltb n 100 ≡ b → ltb n 1000 ≡ c → ltb n 10000 ≡ d → n < 10 ^ places_of n
    fits true b c d p q r t = rw p (ltb-true n 10 p)
    fits false true c d p q r t = rw (p, q) (ltb-true n 100 q)
    fits false false true d p q r t = rw (p, q, r) (ltb-true n 1000 r)
    fits false false false true p q r t = rw (p, q, r, t) (ltb-true n 10000 t)
    fits false false false false p q r t = rw (p, q, r, t) h

-- and none of them is a leading zero: fewer would not do
pub fewest-digits : (n : ℕ) → 10 ≤ n → 10 ^ (places_of n - 1) ≤ n
unfolding places_of
fewest-digits n h = go (ltb n 10) (ltb n 100) (ltb n 1000) (ltb n 10000) refl refl refl
  where
    go : (a b c d : Bool) → ltb n 100 ≡ b → ltb n 1000 ≡ c → ltb n 10000 ≡ d → 10 ^ (cond a 1 (cond b 2 (cond c 3 (cond d 4 5))) - 1) ≤ n
    go true b c d q r t = omega arith
    go false true c d q r t = h
    go false false true d q r t = ltb-false n 100 q
    go false false false true q r t = ltb-false n 1000 r
    go false false false false q r t = ltb-false n 10000 t
