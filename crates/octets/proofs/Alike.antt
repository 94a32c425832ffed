-- The test that two lists are equal. Assumes nothing.
use Prim.Native.Nat.{ℕ}
use mathlib.Core.Path.{◌≡◌, refl, sym, ap, ap₂, ◌∙◌}
use mathlib.Core.List.{List, [], ◌∷◌}
use mathlib.Core.Bool.{Bool, true, false, ◌&&◌, false≢true}
use lib.Dec.{eqb}
use borrow.Author.Tests.{eq-eqb, eqb-true}
use Rattle.std.specs.Cmp.Lexicographic.{pointwise}
use Rattle.octets.specs.Parts.{alike}
use Rattle.octets.proofs.Tests.{both}

-- the library's test
pub alike_is : (xs ys : List ℕ) → pointwise eqb xs ys ≡ alike xs ys
unfolding alike
alike_is [] [] = refl
alike_is [] (y ∷ ys) = refl
alike_is (x ∷ xs) [] = refl
alike_is (x ∷ xs) (y ∷ ys) = ap (λ (b : Bool). eqb x y && b) (alike_is xs ys)

pub alike_refl : (xs : List ℕ) → alike xs xs ≡ true
unfolding alike
alike_refl [] = refl
alike_refl (x ∷ xs) = rw (eq-eqb x x refl, alike_refl xs)

pub alike-true : (xs ys : List ℕ) → alike xs ys ≡ true → xs ≡ ys
unfolding alike
alike-true [] [] e = refl
alike-true [] (y ∷ ys) e = absurd (false≢true e)
alike-true (x ∷ xs) [] e = absurd (false≢true e)
alike-true (x ∷ xs) (y ∷ ys) e =
    let b = both (eqb x y) (alike xs ys) e in
    ap₂ ◌∷◌ (eqb-true x y b.0) (alike-true xs ys b.1)

pub alike-ne : (xs ys : List ℕ) → (xs ≡ ys → ⊥) → alike xs ys ≡ false
alike-ne xs ys n = go (alike xs ys) refl
  where
    go : (b : Bool) → alike xs ys ≡ b → b ≡ false
    go true e = absurd (n (alike-true xs ys e))
    go false e = refl

pub alike-comm : (xs ys : List ℕ) → alike xs ys ≡ alike ys xs
alike-comm xs ys = go (alike xs ys) (alike ys xs) refl refl
  where
    go : (a b : Bool) → alike xs ys ≡ a → alike ys xs ≡ b → a ≡ b
    go true b e f = sym (alike_refl xs) ∙ ap (λ (l : List ℕ). alike l xs) (alike-true xs ys e) ∙ f
    go false true e f = sym e ∙ ap (alike xs) (alike-true ys xs f) ∙ alike_refl xs
    go false false e f = refl
