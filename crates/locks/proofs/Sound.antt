-- Sound lists of locks: what the tests tell, as facts with names, and back; a tick and a new lock keep a list sound. Assumes nothing.
use Prim.Native.Nat.{ℕ, ◌^◌, ◌≤◌, ◌<◌}
use mathlib.Core.Path.{◌≡◌, refl, sym, ap, ◌∙◌}
use mathlib.Core.List.{List, [], ◌∷◌, ◌++◌}
use mathlib.Core.Bool.{Bool, true, false, cond, not, ◌&&◌}
use native.Mathlib.Omega.{arith}
use lib.Dec.{eqb, ltb, leb, lit<}
use borrow.Author.Tests.{ltb-true, leb-true, eqb-true, eqb-false, le-leb, ne_eqb, not-true}
use lib.ListN.{length, drop, length-append, length-drop}
use Rattle.octets.specs.Tests.{all_of}
use Rattle.octets.proofs.Tests.{both, and_left, and_right, and_both, or_left, or_right}
use Rattle.octets.specs.Each.{All}
use Rattle.octets.proofs.Each.{all-facts, all-test, all_append, all_drop}
use Rattle.locks.specs.declared.Lock.{Lock}
use Rattle.std.specs.Prelude.{Some, None}
use Rattle.locks.specs.Locks.{less, aged_of, kept_before, swept_of, found_from, locked, most_locks, made_room, added, lock_legal, distinct, locks_legal}
use Rattle.locks.proofs.Lookups.{locked-cons}
use Rattle.locks.proofs.Sweeps.{swept-length}

pub record LockLegal (valid : ℕ) (l : Lock) : Type 0 where
  pub low : 1 ≤ l.left
  pub high : l.left ≤ valid

abbrev pub Distinct : List Lock → Type 0
Distinct [] = Unit {0}
Distinct (l ∷ ls) = (locked l.uid ls ≡ false) × Distinct ls

pub record LocksLegal (valid : ℕ) (ls : List Lock) : Type 0 where
  pub few : length ls ≤ most_locks
  pub each : All (LockLegal valid) ls
  pub distinct : Distinct ls

-- the numbers of a lock fit their octets
pub record LockFits (l : Lock) : Type 0 where
  pub uid : l.uid < 2 ^ 64
  pub left : l.left < 2 ^ 16

-- ---- from a test to its facts, and back

pub lock-facts : (valid : ℕ) (l : Lock) → lock_legal valid l ≡ true → LockLegal valid l
unfolding lock_legal
lock-facts valid l e =
    let t = both (leb 1 l.left) (leb l.left valid) e in
    record { low = leb-true 1 l.left t.0; high = leb-true l.left valid t.1 }

pub lock-test : (valid : ℕ) (l : Lock) → LockLegal valid l → lock_legal valid l ≡ true
unfolding lock_legal
lock-test valid l p = and_both _ _ (le-leb 1 l.left p.low) (le-leb l.left valid p.high)

distinct-facts : (ls : List Lock) → distinct ls ≡ true → Distinct ls
unfolding distinct
distinct-facts [] e = tt
distinct-facts (l ∷ ls) e =
    (not-true (locked l.uid ls) (and_left (not (locked l.uid ls)) (distinct ls) e), distinct-facts ls (and_right (not (locked l.uid ls)) (distinct ls) e))

distinct-test : (ls : List Lock) → Distinct ls → distinct ls ≡ true
unfolding distinct
distinct-test [] p = refl
distinct-test (l ∷ ls) p = and_both _ _ (ap not p.0) (distinct-test ls p.1)

module _ (valid : ℕ) (ls : List Lock) where
  pub locks-facts : locks_legal valid ls ≡ true → LocksLegal valid ls
  unfolding locks_legal
  locks-facts e = record {
    few = leb-true (length ls) most_locks (search (and_left, and_right));
    each = all-facts (lock_legal valid) (LockLegal valid) (lock-facts valid) ls (search (and_left, and_right));
    distinct = distinct-facts ls (search (and_left, and_right));
  }

  pub locks-test : LocksLegal valid ls → locks_legal valid ls ≡ true
  unfolding locks_legal
  locks-test p =
      simp (le-leb (length ls) most_locks p.few, all-test (lock_legal valid) (LockLegal valid) (lock-test valid) ls p.each, distinct-test ls p.distinct)

  -- of so many, as the code tests them
  pub legal_few : length ls ≤ most_locks → locks_legal valid ls ≡ (all_of (lock_legal valid) ls && distinct ls)
  unfolding locks_legal
  legal_few h = rw (le-leb (length ls) most_locks h)

-- ---- who is not locked

module _ (uid : ℕ) (l : Lock) (ls : List Lock) where
  pub unlocked-head : locked uid (l ∷ ls) ≡ false → eqb l.uid uid ≡ false
  unlocked-head e = or_left (eqb l.uid uid) (locked uid ls) (sym (locked-cons uid l ls) ∙ e)

  pub unlocked-tail : locked uid (l ∷ ls) ≡ false → locked uid ls ≡ false
  unlocked-tail e = or_right (eqb l.uid uid) (locked uid ls) (sym (locked-cons uid l ls) ∙ e)

  pub unlocked-cons : eqb l.uid uid ≡ false → locked uid ls ≡ false → locked uid (l ∷ ls) ≡ false
  unlocked-cons p q = locked-cons uid l ls ∙ rw (p, q)

-- ---- a tick

-- who was not locked is not, after a tick
pub swept-unlocked : (uid : ℕ) (ls : List Lock) → locked uid ls ≡ false → locked uid (swept_of ls) ≡ false
unfolding swept_of aged_of
swept-unlocked uid [] e = e
swept-unlocked uid (l ∷ ls) e = go (ltb 1 l.left) (unlocked-head uid l ls e) (swept-unlocked uid ls (unlocked-tail uid l ls e))
  where
    go : (b : Bool) → eqb l.uid uid ≡ false → locked uid (swept_of ls) ≡ false → locked uid (kept_before (cond b (Some (less l)) None) (swept_of ls)) ≡ false
    go true p q = unlocked-cons uid (less l) (swept_of ls) p q
    go false p q = q

-- a rule of each lock that an older lock keeps
swept_all : (P : Lock → Type 0) → ((l : Lock) → 1 < l.left → P l → P (less l)) → (ls : List Lock) → All P ls → All P (swept_of ls)
unfolding swept_of aged_of
swept_all P f [] p = tt
swept_all P f (l ∷ ls) p = go (ltb 1 l.left) refl (swept_all P f ls p.1)
  where
    go : (b : Bool) → ltb 1 l.left ≡ b → All P (swept_of ls) → All P (kept_before (cond b (Some (less l)) None) (swept_of ls))
    go true e q = (f l (ltb-true 1 l.left e) p.0, q)
    go false e q = q

swept-distinct : (ls : List Lock) → Distinct ls → Distinct (swept_of ls)
unfolding swept_of aged_of
swept-distinct [] p = tt
swept-distinct (l ∷ ls) p = go (ltb 1 l.left) (swept-distinct ls p.1)
  where
    go : (b : Bool) → Distinct (swept_of ls) → Distinct (kept_before (cond b (Some (less l)) None) (swept_of ls))
    go true q = (swept-unlocked l.uid ls p.0, q)
    go false q = q

pub swept-legal : (valid : ℕ) (ls : List Lock) → LocksLegal valid ls → LocksLegal valid (swept_of ls)
swept-legal valid ls p = record {
  few = omega (arith, swept-length ls, p.few);
  each = swept_all (LockLegal valid) (λ l h q. record { low = omega arith; high = omega (arith, q.high) }) ls p.each;
  distinct = swept-distinct ls p.distinct;
}

pub swept-fit : (ls : List Lock) → All LockFits ls → All LockFits (swept_of ls)
swept-fit = swept_all LockFits (λ l h q. record { uid = q.uid; left = omega (arith, q.left) })

-- ---- a new lock

append-unlocked : (uid : ℕ) (ls : List Lock) (l : Lock) → locked uid ls ≡ false → eqb l.uid uid ≡ false → locked uid (ls ++ (l ∷ [])) ≡ false
unfolding found_from
append-unlocked uid [] l p q = unlocked-cons uid l [] q p
append-unlocked uid (k ∷ ls) l p q =
    unlocked-cons uid k (ls ++ (l ∷ [])) (unlocked-head uid k ls p) (append-unlocked uid ls l (unlocked-tail uid k ls p) q)

append-distinct : (ls : List Lock) (l : Lock) → Distinct ls → locked l.uid ls ≡ false → Distinct (ls ++ (l ∷ []))
append-distinct [] l p q = (q, tt)
append-distinct (k ∷ ls) l p q = (
  append-unlocked k.uid ls l p.0 (ne_eqb l.uid k.uid (λ e. eqb-false k.uid l.uid (unlocked-head l.uid k ls q) (sym e))),
  append-distinct ls l p.1 (unlocked-tail l.uid k ls q),
)

-- a rule of lists that holds where no lock is added, where there is room, and of the list without its oldest, holds with the new lock
module _ (P : List Lock → Type 0) (uid valid : ℕ) where
  pub added-keeps : (ls : List Lock) → (valid ≡ 0 → P ls) → (1 ≤ valid → length ls < most_locks → P (ls ++ (record { uid = uid; left = valid } ∷ [])))
      → (1 ≤ valid → P (drop 1 ls ++ (record { uid = uid; left = valid } ∷ []))) → P (added uid valid ls)
  unfolding added made_room
  added-keeps ls none room full = go (eqb valid 0) refl
    where
      positive : (valid ≡ 0 → ⊥) → 1 ≤ valid
      positive n = omega arith

      made : (b : Bool) → ltb (length ls) most_locks ≡ b → 1 ≤ valid → P (cond b ls (drop 1 ls) ++ (record { uid = uid; left = valid } ∷ []))
      made true t h = room h (ltb-true (length ls) most_locks t)
      made false t h = full h

      go : (b : Bool) → eqb valid 0 ≡ b → P (cond b ls (cond (ltb (length ls) most_locks) ls (drop 1 ls) ++ (record { uid = uid; left = valid } ∷ [])))
      go true t = none (eqb-true valid 0 t)
      go false t = made (ltb (length ls) most_locks) refl (positive (eqb-false valid 0 t))

module _ (valid uid : ℕ) where
  abbrev new : Lock
  new = record { uid = uid; left = valid }

  snoc-legal : (ls : List Lock) → 1 ≤ valid → length ls < most_locks → All (LockLegal valid) ls → Distinct ls → locked uid ls ≡ false → LocksLegal valid (ls ++ (new ∷ []))
  snoc-legal ls v h p q e = record {
    few = simp length-append (omega arith);
    each = all_append (LockLegal valid) ls (new ∷ []) p (record { low = v; high = omega arith }, tt);
    distinct = append-distinct ls new q e;
  }

  full-legal : (ls : List Lock) → 1 ≤ valid → LocksLegal valid ls → locked uid ls ≡ false → LocksLegal valid (drop 1 ls ++ (new ∷ []))
  full-legal [] v p e = snoc-legal [] v (lit< tt) tt tt e
  full-legal (l ∷ ls) v p e = snoc-legal ls v p.few p.each.1 p.distinct.1 (unlocked-tail uid l ls e)

  pub added-legal : (ls : List Lock) → LocksLegal valid ls → locked uid ls ≡ false → LocksLegal valid (added uid valid ls)
  added-legal ls p e =
      added-keeps (LocksLegal valid) uid valid ls (λ z. p)
      (λ v h. snoc-legal ls v h p.each p.distinct e)
      (λ v. full-legal ls v p e)

  pub added-fit : (ls : List Lock) → LockFits new → All LockFits ls → All LockFits (added uid valid ls)
  added-fit ls f p =
      added-keeps (All LockFits) uid valid ls (λ z. p)
      (λ v h. all_append LockFits ls (new ∷ []) p (f, tt))
      (λ v. all_append LockFits (drop 1 ls) (new ∷ []) (all_drop LockFits 1 ls p) (f, tt))

  pub added-few : (ls : List Lock) → length ls ≤ most_locks → length (added uid valid ls) ≤ most_locks
  added-few ls h =
      added-keeps (λ (ks : List Lock). length ks ≤ most_locks) uid valid ls (λ z. h)
      (λ v r. simp length-append (omega arith))
      (λ v. simp (length-append, length-drop) (omega arith))
