-- A test of every number below a bound: a loop's turns, and what it tells of each number. Assumes nothing.
use Prim.Native.Nat.{ℕ, zero, suc, ◌+◌, ◌<◌}
use mathlib.Core.Path.{◌≡◌, refl, sym, ◌∙◌}
use mathlib.Core.Bool.{Bool, true, false}
use native.Mathlib.Decide.{dec_lt}
use native.Mathlib.Numerals.{add-one}
use native.Mathlib.Omega.{arith}
use Rattle.octets.specs.Tests.{every}
use Rattle.octets.proofs.Tests.{both}

pub every-none : (f : ℕ → Bool) → every 0 f ≡ true
unfolding every
every-none f = refl

-- a turn of a loop
pub every_more : (k : ℕ) (f : ℕ → Bool) → every k f ≡ true → f k ≡ true → every (k + 1) f ≡ true
unfolding every
every_more k f e h = rw (add-one, every, h, e)

-- a loop's end
pub every-end : (m : ℕ) (f : ℕ → Bool) (i : ℕ) → every i f ≡ true → i ≡ m → every m f ≡ true
every-end m f i e q = rw (← q) e

pub every-at : (m : ℕ) (f : ℕ → Bool) (i : ℕ) → every m f ≡ true → i < m → f i ≡ true
unfolding every
every-at zero f i e h = absurd (omega arith)
every-at (suc k) f i e h =
    let b = both (f k) (every k f) e in
    elim (dec_lt i k) [
      | yes l ↦ every-at k f i b.1 l
      | no n ↦ let q : k ≡ i = omega arith in rw (← q) b.0
    ]

-- a turn that leaves a loop
pub every-false : (m : ℕ) (f : ℕ → Bool) (i : ℕ) → i < m → f i ≡ false → every m f ≡ false
every-false m f i h e = go (every m f) refl
  where
    go : (b : Bool) → every m f ≡ b → b ≡ false
    go true q = sym (every-at m f i q h) ∙ e
    go false q = refl

pub every-all : (m : ℕ) (f : ℕ → Bool) → ((i : ℕ) → i < m → f i ≡ true) → every m f ≡ true
unfolding every
every-all zero f h = refl
every-all (suc k) f h = rw (h k (omega arith), every-all k f (λ i l. h i (omega arith)))
