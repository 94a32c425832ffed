-- What a test of several parts tells of each, and what the first of tests in order tells of those before it. Assumes nothing.
use mathlib.Core.Path.{◌≡◌, refl, sym, ap, ◌∙◌}
use mathlib.Core.Bool.{Bool, true, false, cond, ◌&&◌, ◌||◌, not, false≢true, true≢false}
use mathlib.Core.List.{List, [], ◌∷◌, ◌++◌}
use mathlib.Core.Option.{none, some}
use borrow.Author.Tests.{not-true, not-false}
use Rattle.octets.specs.Tests.{first, none_given}

-- an answer r that is the test b, where `if !r` was left, and where it was taken
pub passed : {r b : Bool} → r ≡ b → not r ≡ false → b ≡ true
passed {r} e h = sym e ∙ not-false r h

pub failed : {r b : Bool} → r ≡ b → not r ≡ true → b ≡ false
failed {r} e h = sym e ∙ not-true r h

-- ---- two tests

pub and_left : (a b : Bool) → a && b ≡ true → a ≡ true
and_left true b e = refl
and_left false b e = e

pub and_right : (a b : Bool) → a && b ≡ true → b ≡ true
and_right true b e = e
and_right false b e = absurd (false≢true e)

pub both : (a b : Bool) → a && b ≡ true → (a ≡ true) × (b ≡ true)
both a b e = (and_left a b e, and_right a b e)

pub and_both : (a b : Bool) → a ≡ true → b ≡ true → a && b ≡ true
and_both a b p q = rw (p, q)

pub and_assoc : (a b c : Bool) → a && (b && c) ≡ (a && b) && c
and_assoc true b c = refl
and_assoc false b c = refl

pub or_left : (a b : Bool) → a || b ≡ false → a ≡ false
or_left true b e = e
or_left false b e = refl

pub or_right : (a b : Bool) → a || b ≡ false → b ≡ false
or_right true b e = absurd (true≢false e)
or_right false b e = e

-- ---- tests in order

module _ {A : Type 0} where
  -- no test of a list was given: neither the first, nor one of the others
  pub none-head : (x : A) (b : Bool) (ts : List (A × Bool)) → first ((x, b) ∷ ts) ≡ none → b ≡ false
  unfolding first
  none-head x true ts e = cc
  none-head x false ts e = refl

  pub none_tail : (x : A) (b : Bool) (ts : List (A × Bool)) → first ((x, b) ∷ ts) ≡ none → first ts ≡ none
  unfolding first
  none_tail x true ts e = cc
  none_tail x false ts e = e

  -- tests before others, none of them given
  pub first-append : (ts us : List (A × Bool)) → none_given (first ts) ≡ true → first (ts ++ us) ≡ first us
  unfolding first none_given
  first-append [] us e = refl
  first-append (t ∷ ts) us e = go t.1 e (first-append ts us)
    where
      go : (b : Bool) → none_given (cond b (some t.0) (first ts)) ≡ true → (none_given (first ts) ≡ true → first (ts ++ us) ≡ first us)
          → cond b (some t.0) (first (ts ++ us)) ≡ first us
      go true q f = absurd (false≢true q)
      go false q f = f q

  pub none-append : (ts us : List (A × Bool)) → first (ts ++ us) ≡ none → first ts ≡ none
  unfolding first
  none-append [] us e = refl
  none-append (t ∷ ts) us e = go t.1 e (none-append ts us)
    where
      go : (b : Bool) → cond b (some t.0) (first (ts ++ us)) ≡ none → (first (ts ++ us) ≡ none → first ts ≡ none)
          → cond b (some t.0) (first ts) ≡ none
      go true q f = cc
      go false q f = f q

  pub first-none : (ts us : List (A × Bool)) → first ts ≡ none → first (ts ++ us) ≡ first us
  unfolding none_given
  first-none ts us e = first-append ts us (ap none_given e)

  -- one of them was given
  pub first-given : (x : A) (ts us : List (A × Bool)) → first ts ≡ some x → first (ts ++ us) ≡ some x
  unfolding first
  first-given x [] us e = cc
  first-given x (t ∷ ts) us e = go t.1 e (first-given x ts us)
    where
      go : (b : Bool) → cond b (some t.0) (first ts) ≡ some x → (first ts ≡ some x → first (ts ++ us) ≡ some x)
          → cond b (some t.0) (first (ts ++ us)) ≡ some x
      go true q f = q
      go false q f = f q
