-- A rule of each element of a list. Assumes nothing.
use mathlib.Core.Path.{◌≡◌, refl, subst}
use Prim.Native.Nat.{ℕ, zero, suc, ◌/◌, ◌^◌}
use native.Mathlib.Nat.{mod-lt}
use mathlib.Core.Bool.{Bool, true, false, cond}
use mathlib.Core.Option.{some, none-ne-some, some-injective}
use mathlib.Core.List.{List, [], ◌∷◌, ◌++◌, map}
use lib.ListN.{get_or, set, take, drop, replicate}
use lib.Dec.{lit<}
use Rattle.octets.specs.Tests.{first, all_of}
use Rattle.octets.specs.Each.{All, Octet}
use Rattle.octets.specs.Parts.{part, put}
use Rattle.octets.specs.Numbers.{octets, Octets}
use Rattle.octets.proofs.Tests.{and_left, and_right, and_both}

-- tests in order, each with what it gives: what was given follows a rule that all follow
pub given-each : {A : Type 0} (P : A → Type 0) (ts : List (A × Bool)) (x : A) → All (λ (t : A × Bool). P t.0) ts → first ts ≡ some x → P x
unfolding first
given-each P [] x p e = absurd (none-ne-some x e)
given-each P (t ∷ ts) x p e = go t.1 e (given-each P ts x p.1)
  where
    go : (b : Bool) → cond b (some t.0) (first ts) ≡ some x → (first ts ≡ some x → P x) → P x
    go true q f = subst P (some-injective t.0 x q) p.0
    go false q f = f q

-- ---- the test of each element, and the rule

pub all-facts : {A : Type 0} (f : A → Bool) (P : A → Type 0) → ((x : A) → f x ≡ true → P x) → (xs : List A) → all_of f xs ≡ true → All P xs
unfolding all_of
all-facts f P h [] e = tt
all-facts f P h (x ∷ xs) e = (h x (and_left (f x) (all_of f xs) e), all-facts f P h xs (and_right (f x) (all_of f xs) e))

pub all-test : {A : Type 0} (f : A → Bool) (P : A → Type 0) → ((x : A) → P x → f x ≡ true) → (xs : List A) → All P xs → all_of f xs ≡ true
unfolding all_of
all-test f P h [] p = refl
all-test f P h (x ∷ xs) p = and_both (f x) (all_of f xs) (h x p.0) (all-test f P h xs p.1)

-- ---- parts of a list, and changes

module _ {A : Type 0} (P : A → Type 0) where
  pub all_append : (xs ys : List A) → All P xs → All P ys → All P (xs ++ ys)
  all_append [] ys p q = q
  all_append (x ∷ xs) ys p q = (p.0, all_append xs ys p.1 q)

  pub all_take : (n : ℕ) (xs : List A) → All P xs → All P (take n xs)
  all_take zero xs p = tt
  all_take (suc n) [] p = tt
  all_take (suc n) (x ∷ xs) p = (p.0, all_take n xs p.1)

  pub all_drop : (n : ℕ) (xs : List A) → All P xs → All P (drop n xs)
  all_drop zero xs p = p
  all_drop (suc n) [] p = tt
  all_drop (suc n) (x ∷ xs) p = all_drop n xs p.1

  pub all-get_or : (xs : List A) (n : ℕ) (d : A) → All P xs → P d → P (get_or xs n d)
  all-get_or [] n d p q = q
  all-get_or (x ∷ xs) zero d p q = p.0
  all-get_or (x ∷ xs) (suc n) d p q = all-get_or xs n d p.1 q

  pub all_set : (xs : List A) (n : ℕ) (y : A) → All P xs → P y → All P (set xs n y)
  all_set [] n y p q = tt
  all_set (x ∷ xs) zero y p q = (q, p.1)
  all_set (x ∷ xs) (suc n) y p q = (p.0, all_set xs n y p.1 q)

  pub all_map : (f : A → A) → ((x : A) → P x → P (f x)) → (xs : List A) → All P xs → All P (map f xs)
  all_map f h [] p = tt
  all_map f h (x ∷ xs) p = (h x p.0, all_map f h xs p.1)

  pub all_replicate : (n : ℕ) (x : A) → P x → All P (replicate n x)
  all_replicate zero x p = tt
  all_replicate (suc n) x p = (p, all_replicate n x p)

-- ---- octets

pub octets-part : (at n : ℕ) (s : List ℕ) → All Octet s → All Octet (part at n s)
unfolding part
octets-part at n s p = all_take Octet n (drop at s) (all_drop Octet at s p)

pub octets-put : (at : ℕ) (xs s : List ℕ) → All Octet xs → All Octet s → All Octet (put at xs s)
unfolding put
octets-put at [] s p q = q
octets-put at (x ∷ xs) s p q = octets-put (suc at) xs (set s at x) p.1 (all_set Octet s at x q p.0)

pub octets-number : (n x : ℕ) → All Octet (octets n x)
unfolding octets
octets-number zero x = tt
octets-number (suc n) x = (mod-lt (x / 256 ^ n) (lit< tt), octets-number n x)

-- what a `&[u8]` tells of its list, as a rule of each, and back
pub octets-each : (xs : List ℕ) → Octets xs → All Octet xs
octets-each [] h = tt
octets-each (x ∷ xs) h = (h 0, octets-each xs (λ i. h (suc i)))

pub each-octets : (xs : List ℕ) → All Octet xs → Octets xs
each-octets xs p i = all-get_or Octet xs i 0 p (lit< tt)
