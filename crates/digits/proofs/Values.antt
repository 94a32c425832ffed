-- Hex digits: what each test finds, and the octets that digits make two by two. Assumes nothing.
use Prim.Native.Nat.{ℕ, zero, suc, ◌+◌, ◌-◌, ◌*◌, ◌/◌, ◌≤◌, ◌<◌, min}
use mathlib.Core.Path.{◌≡◌, refl, sym, ap, ap₂, ◌∙◌}
use mathlib.Core.Bool.{Bool, true, false, ◌&&◌}
use mathlib.Core.List.{List, [], ◌∷◌, ◌++◌}
use native.Mathlib.Decide.{dec_lt}
use native.Mathlib.Nat.{zero-add}
use native.Mathlib.Omega.{arith}
use borrow.Author.Tests.{leb-true}
use lib.ListN.{length, get_or, take, drop, set, length-drop}
use lib.Seq.{take_all}
use Rattle.std.specs.List.{list_all}
use Rattle.octets.specs.Tests.{all_of}
use Rattle.octets.specs.Parts.{put}
use Rattle.octets.proofs.Tests.{both}
use Rattle.octets.proofs.Puts.{put-more}
use Rattle.digits.specs.Digits.{between, value_of, octets_of}

-- ---- a digit

pub bounds : (low high c : ℕ) → between low high c ≡ true → (low ≤ c) × (c ≤ high)
unfolding between
bounds low high c e = let b = both _ _ e in (leb-true low c b.0, leb-true c high b.1)

-- ---- a test of each

-- as std's test of each says it
pub all_from : (f : ℕ → Bool) (s : List ℕ) (r : Bool) → r ≡ list_all f s → r ≡ all_of f s
unfolding all_of
all_from f s r e = e ∙ same s
  where
    same : (s : List ℕ) → list_all f s ≡ all_of f s
    same [] = refl
    same (x ∷ s) = ap (λ (b : Bool). f x && b) (same s)

pub all_snoc : (f : ℕ → Bool) (s : List ℕ) (c : ℕ) → all_of f (s ++ (c ∷ [])) ≡ all_of f s && f c
unfolding all_of
all_snoc f [] c = go (f c)
  where
    go : (b : Bool) → b && true ≡ true && b
    go true = refl
    go false = refl
all_snoc f (x ∷ s) c = ap (λ (b : Bool). f x && b) (all_snoc f s c) ∙ go (f x)
  where
    go : (b : Bool) → b && (all_of f s && f c) ≡ (b && all_of f s) && f c
    go true = refl
    go false = refl

-- ---- octets of digits

pub octets-length : (s : List ℕ) → length (octets_of s) ≡ length s / 2
unfolding octets_of
octets-length [] = omega arith
octets-length (x ∷ []) = omega arith
octets-length (x ∷ y ∷ s) = omega (arith, octets-length s)

octets-at : (s : List ℕ) (i : ℕ) → 2 * i + 1 < length s → get_or (octets_of s) i 0 ≡ value_of (get_or s (2 * i) 0) * 16 + value_of (get_or s (2 * i + 1) 0)
unfolding octets_of
octets-at [] i h = absurd (omega arith)
octets-at (x ∷ []) i h = absurd (omega arith)
octets-at (x ∷ y ∷ s) zero h = refl
octets-at (x ∷ y ∷ s) (suc i) h =
    let even : suc (suc (2 * i)) ≡ 2 * suc i = omega arith in
    let next : suc (suc (2 * i + 1)) ≡ 2 * suc i + 1 = omega arith in
    octets-at s i (omega arith) ∙ ap₂ (λ (a b : ℕ). value_of (get_or (x ∷ y ∷ s) a 0) * 16 + value_of (get_or (x ∷ y ∷ s) b 0)) even next

-- one octet more, as a loop writes them
pub octets-more : (s to to' : List ℕ) (i a b : ℕ) → 2 * i + 1 < length s → to' ≡ put 0 (take i (octets_of s)) to
    → a ≡ value_of (get_or s (2 * i) 0) → b ≡ value_of (get_or s (2 * i + 1) 0) → set to' i (a * 16 + b) ≡ put 0 (take (i + 1) (octets_of s)) to
octets-more s to to' i a b h p q r =
    let l : i < length (octets_of s) = omega (arith, octets-length s) in
    rw (p, q, r, ← octets-at s i h) (simp zero-add at (put-more 0 i (octets_of s) to l))

-- the first of a list, as many as there are
pub take-least : (a n : ℕ) (l : List ℕ) → n ≡ min a (length l) → take n l ≡ take a l
take-least a n l e =
    elim (dec_lt a (length l)) [
      | yes h ↦ let q : n ≡ a = omega arith in rw q
      | no h ↦ take_all n l (omega arith) ∙ sym (take_all a l (omega arith))
    ]

-- a part up to the end
pub rest_of : (n : ℕ) (s : List ℕ) → take (length s - n) (drop n s) ≡ drop n s
rest_of n s = take_all (length s - n) (drop n s) (simp length-drop (omega arith))
