-- Numbers as octets, there and back. Assumes nothing.
use Prim.Native.Nat.{ℕ, zero, suc, ◌+◌, ◌*◌, ◌/◌, ◌%◌, ◌^◌, ◌-◌, ◌≤◌, ◌<◌, zero-le}
use mathlib.Core.Path.{◌≡◌, refl, sym, ap, ap₂, ◌∙◌}
use mathlib.Core.List.{List, [], ◌∷◌, ◌++◌}
use native.Mathlib.Nat.{div-one, zero-add, suc-add, pow-suc, pow-succ', mod-one, add-zero, mod-eq_of_lt, mul_assoc, mul-add-div_right, mul-add-mod_self_right, pow-le-pow_right}
use native.Mathlib.Numerals.{add-one}
use native.Mathlib.Omega.{arith}
use lib.Dec.{lit<}
use lib.Arith.{digits_lt, digits_div, mod-mul}
use native.Mathlib.Decide.{dec_lt}
use lib.ListN.{length, take, drop, get_or, length-append, length-take, get_or-eq_default}
use Rattle.std.specs.Int.{byte_at, bytes_high_first}
use Rattle.std.proofs.lemmas.List.{take_more, take_all}
use Rattle.octets.specs.Parts.{part, put, Apart}
use Rattle.octets.specs.Numbers.{number, octets, u16_at, Octets}
use Rattle.octets.proofs.Puts.{part_none, part-more, part_at, part_length, part-part, part-put-away, part-put-same, put-part}

pow_pos : (n : ℕ) → 0 < 256 ^ n
pow_pos n = pow-le-pow_right {n = 256} (lit< tt) {i = 0} zero-le

pub octets-length : (n x : ℕ) → length (octets n x) ≡ n
unfolding octets
octets-length zero x = refl
octets-length (suc n) x = ap suc (octets-length n x)

pub number_lt : (xs : List ℕ) → Octets xs → number xs < 256 ^ length xs
unfolding number
number_lt [] h = omega arith
number_lt (x ∷ xs) h = rw pow-succ' (digits_lt (h 0) (number_lt xs (λ i. h (suc i))))

-- ---- there and back

number-octets-mod : (n x : ℕ) → number (octets n x) ≡ x % 256 ^ n
unfolding number octets
number-octets-mod zero x = sym (mod-one x)
number-octets-mod (suc n) x =
    ap₂ (λ (k m : ℕ). x / 256 ^ n % 256 * 256 ^ k + m) (octets-length n x) (number-octets-mod n x)
    ∙ sym (ap (λ (k : ℕ). x % k) (pow-succ' 256 n) ∙ mod-mul x (lit< tt) (pow_pos n))

pub number-octets : (n x : ℕ) → x < 256 ^ n → number (octets n x) ≡ x
number-octets n x h = number-octets-mod n x ∙ mod-eq_of_lt h

-- what lies above the low n octets does not count
octets-low : (n q r : ℕ) → octets n (q * 256 ^ n + r) ≡ octets n r
unfolding octets
octets-low zero q r = refl
octets-low (suc n) q r =
    let e : q * 256 ^ suc n ≡ q * 256 * 256 ^ n = rw (pow-succ', mul_assoc) in
    ap (λ (k : ℕ). octets (suc n) (k + r)) e
    ∙ ap₂ ◌∷◌
    (ap (λ (k : ℕ). k % 256) (mul-add-div_right (pow_pos n) (q * 256) r) ∙ mul-add-mod_self_right q 256 (r / 256 ^ n))
    (octets-low n (q * 256) r)

pub octets-number : (xs : List ℕ) → Octets xs → octets (length xs) (number xs) ≡ xs
unfolding number octets
octets-number [] h = refl
octets-number (x ∷ xs) h =
    ap₂ ◌∷◌
    (ap (λ (k : ℕ). k % 256) (digits_div x (number_lt xs (λ i. h (suc i)))) ∙ mod-eq_of_lt (h 0))
    (octets-low (length xs) x (number xs) ∙ octets-number xs (λ i. h (suc i)))

-- ---- one octet more, as a loop reads them

number-snoc : (xs : List ℕ) (x : ℕ) → number (xs ++ (x ∷ [])) ≡ number xs * 256 + x
unfolding number
number-snoc [] x = omega arith
number-snoc (y ∷ xs) x =
    let e : length (xs ++ (x ∷ [])) ≡ suc (length xs) = length-append xs (x ∷ []) ∙ add-one (length xs) in
    let p : y * 256 ^ length (xs ++ (x ∷ [])) ≡ y * 256 ^ length xs * 256 = rw (e, pow-suc, mul_assoc) in
    omega (arith, p, number-snoc xs x)

pub number_take_more : (xs : List ℕ) (i : ℕ) → i < length xs → number (take (i + 1) xs) ≡ number (take i xs) * 256 + get_or xs i 0
number_take_more xs i h = ap number (take_more xs i 0 h) ∙ number-snoc (take i xs) (get_or xs i 0)

pub number-none : (at : ℕ) (s : List ℕ) → number (part at 0 s) ≡ 0
unfolding number
number-none at s = ap number (part_none at s)

pub number_more : (at n : ℕ) (s : List ℕ) → at + n < length s → number (part at (n + 1) s) ≡ number (part at n s) * 256 + get_or s (at + n) 0
number_more at n s h = ap number (part-more at n s h) ∙ number-snoc (part at n s) (get_or s (at + n) 0)

-- ---- one octet

pub number-one : (x : ℕ) → number (x ∷ []) ≡ x
unfolding number
number-one x = omega arith

pub number_at : (at : ℕ) (s : List ℕ) → number (part at 1 s) ≡ get_or s at 0
unfolding number part
number_at zero [] = refl
number_at zero (x ∷ s) = omega arith
number_at (suc at) [] = refl
number_at (suc at) (x ∷ s) = number_at at s

-- ---- two octets

pub u16_at-is : (at : ℕ) (s : List ℕ) → at + 2 ≤ length s → u16_at at s ≡ get_or s at 0 * 256 + get_or s (at + 1) 0
unfolding u16_at
u16_at-is at s h =
    let z : get_or s (at + 0) 0 ≡ get_or s at 0 = rw add-zero in
    omega (arith, number_more at 1 s (omega arith), number_more at 0 s (omega arith), number-none at s)

pub u16_at-lt : (at : ℕ) (s : List ℕ) → Octets s → at + 2 ≤ length s → u16_at at s < 65536
u16_at-lt at s h l = omega (arith, u16_at-is at s l, h at, h (at + 1))

-- a put elsewhere leaves them
pub u16_at-away : (from at : ℕ) (xs s : List ℕ) → Apart at (length xs) from 2 → u16_at from (put at xs s) ≡ u16_at from s
unfolding u16_at
u16_at-away from at xs s h = ap number (part-put-away from 2 at xs s h)

-- two octets in a part
pub u16_at-part : (i at n : ℕ) (s : List ℕ) → i + 2 ≤ n → u16_at i (part at n s) ≡ u16_at (at + i) s
unfolding u16_at
u16_at-part i at n s h = ap number (part-part i 2 at n s h)

-- a bound that holds at each turn of a loop that reads octets
pub digit_lt : (n x b : ℕ) → x < 256 ^ n → b < 256 → x * 256 + b < 256 ^ (n + 1)
digit_lt n x b h k = rw (add-one, pow-suc) (digits_lt h k)

-- ---- a number put, and read back

pub number_put : (n at x : ℕ) (s : List ℕ) → x < 256 ^ n → at + n ≤ length s → number (part at n (put at (octets n x) s)) ≡ x
number_put n at x s h l =
    let e : length (octets n x) ≡ n = octets-length n x in
    ap (λ (k : ℕ). number (part at k (put at (octets n x) s))) (sym e)
    ∙ ap number (part-put-same at (octets n x) s (omega arith))
    ∙ number-octets n x h

pub u16_at-put : (at x : ℕ) (s : List ℕ) → x < 65536 → at + 2 ≤ length s → u16_at at (put at (octets 2 x) s) ≡ x
unfolding u16_at
u16_at-put = number_put 2

pub octets-part : (at n : ℕ) (s : List ℕ) → Octets s → Octets (part at n s)
unfolding part
octets-part at n s h i =
    elim (dec_lt i n) [
      | yes l ↦ rw (part_at at n s i l) (h (at + i))
      | no g ↦ rw (get_or-eq_default (take n (drop at s)) 0 {n = i} (omega (arith, length-take n (drop at s)))) (lit< tt)
    ]

-- a number put where it was read
pub put-number : (n at : ℕ) (s : List ℕ) → Octets s → at + n ≤ length s → put at (octets n (number (part at n s))) s ≡ s
put-number n at s h l =
    let e : length (part at n s) ≡ n = part_length at n s l in
    ap (λ (k : ℕ). put at (octets k (number (part at n s))) s) (sym e)
    ∙ ap (λ (xs : List ℕ). put at xs s) (octets-number (part at n s) (octets-part at n s h))
    ∙ put-part at n s

-- ---- the library's octets of a number

byte_is : (k x : ℕ) → byte_at k x ≡ x / 256 ^ k % 256
byte_is zero x = simp div-one
byte_is (suc k) x = refl

pub octets-is : (n x : ℕ) → bytes_high_first n x ≡ octets n x
unfolding octets
octets-is zero x = refl
octets-is (suc n) x = ap₂ ◌∷◌ (byte_is n x) (octets-is n x)

-- the last of them
drop-octets : (k n x : ℕ) → drop k (octets (k + n) x) ≡ octets n x
unfolding octets
drop-octets zero n x = ap (λ (j : ℕ). octets j x) (zero-add n)
drop-octets (suc k) n x = ap (λ (j : ℕ). drop (suc k) (octets j x)) (suc-add k n) ∙ drop-octets k n x

pub octets_last : (m n x : ℕ) → n ≤ m → take (m - (m - n)) (drop (m - n) (bytes_high_first m x)) ≡ octets n x
octets_last m n x h =
    let e : m - n + n ≡ m = omega arith in
    let last : drop (m - n) (bytes_high_first m x) ≡ octets n x =
    ap (drop (m - n)) (octets-is m x) ∙ ap (λ (k : ℕ). drop (m - n) (octets k x)) (sym e) ∙ drop-octets (m - n) n x in
    rw last (take_all _ (octets n x) (omega (arith, octets-length n x)))
