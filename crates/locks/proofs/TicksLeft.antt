-- Laws of `ticks_left`: of which lock they are, how many they can be, and what a tick and a new lock make of them. Assumes nothing.
use Prim.Native.Nat.{ℕ, zero, suc, ◌-◌, ◌≤◌, ◌<◌}
use mathlib.Core.Path.{◌≡◌, refl, sym, ap, ◌∙◌}
use mathlib.Core.Bool.{Bool, true, false, cond, true≢false}
use mathlib.Core.List.{List, [], ◌∷◌, ◌++◌}
use native.Mathlib.Nat.{not-suc-le-zero, le_of_suc-le-suc}
use native.Mathlib.Omega.{arith}
use borrow.Author.Tests.{ltb-false, lt-ltb, eqb-true, eq-eqb, ne_eqb}
use lib.Dec.{eqb, ltb}
use lib.ListN.{length, drop, get_or}
use Rattle.octets.specs.Each.{All}
use Rattle.locks.specs.declared.Lock.{Lock}
use Rattle.std.specs.Prelude.{Some, None}
use Rattle.locks.specs.Locks.{less, aged_of, kept_before, swept_of, found_from, locked, ticks_left, added}
use Rattle.locks.proofs.Lookups.{locked-cons, left-cons}
use Rattle.locks.proofs.Sound.{LockLegal, LocksLegal, Distinct, unlocked-head, unlocked-tail, swept-unlocked, added-keeps}

-- ---- one more lock

module _ (uid : ℕ) (l : Lock) (ls : List Lock) where
  locked-here : eqb l.uid uid ≡ true → locked uid (l ∷ ls) ≡ true
  locked-here e = locked-cons uid l ls ∙ rw e

  locked-later : eqb l.uid uid ≡ false → locked uid (l ∷ ls) ≡ locked uid ls
  locked-later e = locked-cons uid l ls ∙ rw e

  left_here : eqb l.uid uid ≡ true → ticks_left uid (l ∷ ls) ≡ l.left
  left_here e = left-cons uid l ls ∙ rw e

  left-later : eqb l.uid uid ≡ false → ticks_left uid (l ∷ ls) ≡ ticks_left uid ls
  left-later e = left-cons uid l ls ∙ rw e

-- none stands, and none are left
pub unlocked-left : (uid : ℕ) (ls : List Lock) → locked uid ls ≡ false → ticks_left uid ls ≡ 0
unfolding found_from
unlocked-left uid [] e = refl
unlocked-left uid (l ∷ ls) e = left-later uid l ls (unlocked-head uid l ls e) ∙ unlocked-left uid ls (unlocked-tail uid l ls e)

-- ---- of which lock they are

-- a lock with that UID, of which P holds, and whose ticks they are
pub record LockFound (P : Lock → Type 0) (uid : ℕ) (ls : List Lock) : Type 0 where
  pub lock : Lock
  pub holds : P lock
  pub uid-is : lock.uid ≡ uid
  pub left_is : ticks_left uid ls ≡ lock.left

-- where a UID is locked, what holds of each lock holds of the one that is found
pub lock-found : (P : Lock → Type 0) (uid : ℕ) (ls : List Lock) → All P ls → locked uid ls ≡ true → LockFound P uid ls
unfolding found_from
lock-found P uid [] p e = absurd (true≢false (sym e))
lock-found P uid (l ∷ ls) p e = go (eqb l.uid uid) refl (lock-found P uid ls p.1)
  where
    go : (b : Bool) → eqb l.uid uid ≡ b → (locked uid ls ≡ true → LockFound P uid ls) → LockFound P uid (l ∷ ls)
    go true q later = record { lock = l; holds = p.0; uid-is = eqb-true l.uid uid q; left_is = left_here uid l ls q }
    go false q later =
        let f = later (sym (locked-later uid l ls q) ∙ e) in
        record { lock = f.lock; holds = f.holds; uid-is = f.uid-is; left_is = left-later uid l ls q ∙ f.left_is }

-- where no UID stands twice, each lock is the one that is found by its UID
pub lock-at : (ls : List Lock) (i : ℕ) (d : Lock) → Distinct ls → i < length ls
    → (locked (get_or ls i d).uid ls ≡ true) × (ticks_left (get_or ls i d).uid ls ≡ (get_or ls i d).left)
lock-at [] i d p h = absurd (not-suc-le-zero h)
lock-at (l ∷ ls) zero d p h = let same = eq-eqb l.uid l.uid refl in (locked-here l.uid l ls same, left_here l.uid l ls same)
lock-at (l ∷ ls) (suc i) d p h =
    let k = get_or ls i d in
    let later = lock-at ls i d p.1 (le_of_suc-le-suc h) in
    let other = ne_eqb l.uid k.uid (λ e. true≢false (sym later.0 ∙ ap (λ (u : ℕ). locked u ls) (sym e) ∙ p.0)) in
    (locked-later k.uid l ls other ∙ later.0, left-later k.uid l ls other ∙ later.1)

-- ---- how many they can be

module _ (valid uid : ℕ) (ls : List Lock) (p : LocksLegal valid ls) where
  pub left-range : locked uid ls ≡ true → (1 ≤ ticks_left uid ls) × (ticks_left uid ls ≤ valid)
  left-range e = let f = lock-found (LockLegal valid) uid ls p.each e in rw f.left_is (f.holds.low, f.holds.high)

  -- so that they tell whether it is locked
  pub locked-by-left : locked uid ls ≡ ltb 0 (ticks_left uid ls)
  locked-by-left = go (locked uid ls) refl
    where
      go : (b : Bool) → locked uid ls ≡ b → b ≡ ltb 0 (ticks_left uid ls)
      go true e = sym (lt-ltb 0 (ticks_left uid ls) (left-range e).0)
      go false e = rw (unlocked-left uid ls e) refl

-- ---- a tick takes one

pub swept-left : (uid : ℕ) (ls : List Lock) → Distinct ls → ticks_left uid (swept_of ls) ≡ ticks_left uid ls - 1
unfolding swept_of aged_of found_from
swept-left uid [] p = refl
swept-left uid (l ∷ ls) p = go (ltb 1 l.left) (eqb l.uid uid) refl refl (swept-left uid ls p.1)
  where
    -- the lock with that UID went, and there was no other
    gone : eqb l.uid uid ≡ true → ticks_left uid (swept_of ls) ≡ 0
    gone e = unlocked-left uid (swept_of ls) (swept-unlocked uid ls (rw (eqb-true l.uid uid e) at p.0))

    go : (stays here : Bool) → ltb 1 l.left ≡ stays → eqb l.uid uid ≡ here → ticks_left uid (swept_of ls) ≡ ticks_left uid ls - 1
        → ticks_left uid (kept_before (cond stays (Some (less l)) None) (swept_of ls)) ≡ ticks_left uid (l ∷ ls) - 1
    go true true q e later = left_here uid (less l) (swept_of ls) e ∙ rw (left_here uid l ls e)
    go true false q e later = left-later uid (less l) (swept_of ls) e ∙ later ∙ rw (left-later uid l ls e)
    go false true q e later = gone e ∙ rw (left_here uid l ls e) (omega (arith, ltb-false 1 l.left q))
    go false false q e later = later ∙ rw (left-later uid l ls e)

-- ---- a new lock has VALID-TIME; where that is 0 none is added, and none are left

module _ (uid valid : ℕ) where
  snoc-left : (ls : List Lock) → locked uid ls ≡ false → ticks_left uid (ls ++ (record { uid = uid; left = valid } ∷ [])) ≡ valid
  snoc-left [] e = left_here uid record { uid = uid; left = valid } [] (eq-eqb uid uid refl)
  snoc-left (l ∷ ls) e = left-later uid l _ (unlocked-head uid l ls e) ∙ snoc-left ls (unlocked-tail uid l ls e)

  drop-unlocked : (ls : List Lock) → locked uid ls ≡ false → locked uid (drop 1 ls) ≡ false
  drop-unlocked [] e = e
  drop-unlocked (l ∷ ls) e = unlocked-tail uid l ls e

  pub added-left : (ls : List Lock) → locked uid ls ≡ false → ticks_left uid (added uid valid ls) ≡ valid
  added-left ls e =
      added-keeps (λ (ks : List Lock). ticks_left uid ks ≡ valid) uid valid ls
      (λ z. unlocked-left uid ls e ∙ sym z)
      (λ v h. snoc-left ls e)
      (λ v. snoc-left (drop 1 ls) (drop-unlocked ls e))
