-- Laws of `found_in`, `locked` and `ticks_left`: what one more lock makes of each. Assumes nothing.
use mathlib.Core.Path.{◌≡◌, refl, sym, ◌∙◌, ap}
use mathlib.Core.Bool.{Bool, true, false, cond, ◌||◌}
use mathlib.Core.List.{List, [], ◌∷◌}
use Prim.Native.Nat.{ℕ, suc, ◌+◌, ◌≤◌, ◌<◌}
use native.Mathlib.Numerals.{add-one}
use lib.Dec.{eqb}
use lib.ListN.{length, drop, get_or, drop_of_length-le}
use lib.Seq.{drop-cons}
use Rattle.locks.specs.declared.Lock.{Lock}
use Rattle.std.specs.Prelude.{Option, Some, None, is_some}
use Rattle.locks.specs.Locks.{found_from, found_in, locked, left_of, ticks_left}

-- what is read past the end of a list of locks
abbrev pub none : Lock
none = record { uid = 0; left = 0 }

-- ---- a search, lock by lock

pub lookup-cons : (k uid : ℕ) (l : Lock) (ls : List Lock) → found_from k uid (l ∷ ls) ≡ cond (eqb l.uid uid) (Some (k, l.left)) (found_from (k + 1) uid ls)
unfolding found_from
lookup-cons k uid l ls = refl

module _ (ls : List Lock) (i uid : ℕ) (d : Lock) (h : i < length ls) where
  find-next : found_from i uid (drop i ls) ≡ cond (eqb (get_or ls i d).uid uid) (Some (i, (get_or ls i d).left)) (found_from (i + 1) uid (drop (i + 1) ls))
  find-next =
      ap (found_from i uid) (drop-cons ls i d h)
      ∙ lookup-cons i uid (get_or ls i d) (drop (suc i) ls)
      ∙ ap (λ (k : ℕ). cond (eqb (get_or ls i d).uid uid) (Some (i, (get_or ls i d).left)) (found_from (i + 1) uid (drop k ls))) (sym (add-one i))

  pub find-here : eqb (get_or ls i d).uid uid ≡ true → found_from i uid (drop i ls) ≡ Some (i, (get_or ls i d).left)
  find-here e = find-next ∙ ap (λ (t : Bool). cond t (Some (i, (get_or ls i d).left)) (found_from (i + 1) uid (drop (i + 1) ls))) e

  pub find-later : eqb (get_or ls i d).uid uid ≡ false → found_from i uid (drop i ls) ≡ found_from (i + 1) uid (drop (i + 1) ls)
  find-later e = find-next ∙ ap (λ (t : Bool). cond t (Some (i, (get_or ls i d).left)) (found_from (i + 1) uid (drop (i + 1) ls))) e

pub find_none : (ls : List Lock) (i uid : ℕ) → length ls ≤ i → found_from i uid (drop i ls) ≡ None
unfolding found_from
find_none ls i uid h = ap (found_from i uid) (drop_of_length-le ls h)

-- ---- whether a UID is locked, and for how many ticks

-- what is told of a lock that is found, and not of its place
module _ {A : Type 0} (tell : Option (ℕ × ℕ) → A) (placeless : (k j left : ℕ) → tell (Some (k, left)) ≡ tell (Some (j, left))) where
  from-any : (k j uid : ℕ) (ls : List Lock) → tell (found_from k uid ls) ≡ tell (found_from j uid ls)
  unfolding found_from
  from-any k j uid [] = refl
  from-any k j uid (l ∷ ls) = go (eqb l.uid uid) (from-any (k + 1) (j + 1) uid ls)
    where
      go : (b : Bool) → tell (found_from (k + 1) uid ls) ≡ tell (found_from (j + 1) uid ls)
          → tell (cond b (Some (k, l.left)) (found_from (k + 1) uid ls)) ≡ tell (cond b (Some (j, l.left)) (found_from (j + 1) uid ls))
      go true e = placeless k j l.left
      go false e = e

  told-cons : (uid : ℕ) (l : Lock) (ls : List Lock) → tell (found_in uid (l ∷ ls)) ≡ cond (eqb l.uid uid) (tell (Some (0, l.left))) (tell (found_in uid ls))
  told-cons uid l ls = rw lookup-cons (go (eqb l.uid uid))
    where
      go : (b : Bool) → tell (cond b (Some (0, l.left)) (found_from (0 + 1) uid ls)) ≡ cond b (tell (Some (0, l.left))) (tell (found_in uid ls))
      go true = refl
      go false = from-any (0 + 1) 0 uid ls

pub locked-cons : (uid : ℕ) (l : Lock) (ls : List Lock) → locked uid (l ∷ ls) ≡ (eqb l.uid uid || locked uid ls)
locked-cons uid l ls = told-cons is_some (λ k j left. refl) uid l ls ∙ go (eqb l.uid uid)
  where
    go : (b : Bool) → cond b true (locked uid ls) ≡ (b || locked uid ls)
    go true = refl
    go false = refl

pub left-cons : (uid : ℕ) (l : Lock) (ls : List Lock) → ticks_left uid (l ∷ ls) ≡ cond (eqb l.uid uid) l.left (ticks_left uid ls)
left-cons = told-cons left_of (λ k j left. refl)
