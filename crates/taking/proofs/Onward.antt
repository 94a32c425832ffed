-- From the middle of a part: what was taken so far, and what follows. Assumes nothing.
use Prim.Native.Nat.{ℕ, suc, ◌+◌, ◌≤◌, ◌<◌}
use mathlib.Core.Path.{◌≡◌, refl, sym, subst, ◌∙◌}
use mathlib.Core.List.{List, ◌∷◌}
use native.Mathlib.Nat.{zero-add, add-zero}
use native.Mathlib.Numerals.{add-one}
use native.Mathlib.Omega.{arith}
use borrow.Author.Tests.{le-leb, lt-leb}
use lib.ListN.{length, get_or, drop, drop_of_length-le}
use lib.Seq.{drop-cons}
use Rattle.text.specs.Listing.{longest_line}
use Rattle.turning.specs.Turning.{State, Takes}
use Rattle.taking.specs.Taking.{roomy, Took}

-- i octets of a part led from a to m: what is taken of the rest from m on is taken of the part from a on
pub record Onward (part : List ℕ) (a : State) (i : ℕ) (m : State) : Type 0 where
  pub onward : (n : ℕ) (b : State) → Took (drop i part) m n b → Took part a (i + n) b

module _ (part : List ℕ) (a : State) where
  pub onward-none : Onward part a 0 a
  onward-none = record { onward = λ n b q. subst (λ (k : ℕ). Took part a k b) (sym (zero-add n)) q }

  module _ (i : ℕ) (m : State) (o : Onward part a i m) where
    pub onward-more : (m' : State) (j : ℕ) → j ≡ i + 1 → i < length part → m.written + longest_line ≤ length m.out → Takes (get_or part i 0) m m' → Onward part a j m'
    unfolding Took roomy
    onward-more m' j next h room q =
        record {
          onward = λ n b t.
              let e : i + suc n ≡ j + n = omega arith in
              let rest : Took (drop (suc i) part) m' n b = subst (λ (k : ℕ). Took (drop k part) m' n b) (next ∙ add-one i) t in
              let all : Took (get_or part i 0 ∷ drop (suc i) part) m (suc n) b = rw (le-leb _ _ room) (m', n, refl, q, rest) in
              subst (λ (k : ℕ). Took part a k b) e (o.onward (suc n) b (subst (λ (xs : List ℕ). Took xs m (suc n) b) (sym (drop-cons part i 0 h)) all));
        }

    so_far : Took (drop i part) m 0 m → Took part a i m
    so_far q = subst (λ (k : ℕ). Took part a k m) (add-zero i) (o.onward 0 m q)

    pub took-end : length part ≤ i → Took part a i m
    unfolding Took
    took-end h = so_far (subst (λ (xs : List ℕ). Took xs m 0 m) (sym (drop_of_length-le part {i = i} h)) (refl, refl))

    pub took-full : i < length part → length m.out < m.written + longest_line → Took part a i m
    unfolding Took roomy
    took-full h full =
        let all : Took (get_or part i 0 ∷ drop (suc i) part) m 0 m = rw (lt-leb _ _ full) (refl, refl) in
        so_far (subst (λ (xs : List ℕ). Took xs m 0 m) (sym (drop-cons part i 0 h)) all)

-- ---- the end of the input
