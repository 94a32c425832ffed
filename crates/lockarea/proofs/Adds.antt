-- A new lock: what `added` makes of a list, and which octets it changes in the store. Assumes nothing.
use Prim.Native.Nat.{ℕ, suc, ◌+◌, ◌*◌, ◌≤◌, ◌<◌}
use mathlib.Core.Path.{◌≡◌, refl, sym, ap}
use mathlib.Core.List.{List, [], ◌∷◌, ◌++◌}
use native.Mathlib.Omega.{arith}
use borrow.Author.Tests.{eq-eqb, ne_eqb, lt-ltb, le-ltb}
use lib.Seq.{get_or-drop}
use lib.ListN.{length, drop, length-append, length-drop}
use Rattle.octets.specs.Parts.{part, put, rows}
use Rattle.octets.specs.Numbers.{Octets}
use Rattle.locks.specs.declared.Lock.{Lock}
use Rattle.locks.specs.Locks.{most_locks, made_room, added}
use Rattle.lockarea.specs.Area.{lock_octets, locks_in, locks_octets}
use Rattle.lockarea.proofs.Stored.{locks-in-length, octets-locks-in, put-locks-in, put-snoc}

-- ---- a list with a new lock

module _ (uid valid : ℕ) (ls : List Lock) where
  -- none is added where VALID-TIME is 0
  pub added_none : valid ≡ 0 → added uid valid ls ≡ ls
  unfolding added
  added_none e = rw (eq-eqb valid 0 e)

  -- there is room
  pub added-room : (valid ≡ 0 → ⊥) → length ls < most_locks → added uid valid ls ≡ ls ++ (record { uid = uid; left = valid } ∷ [])
  unfolding added made_room
  added-room n h = rw (ne_eqb valid 0 n, lt-ltb (length ls) most_locks h)

  -- the oldest gives way
  pub added_full : (valid ≡ 0 → ⊥) → most_locks ≤ length ls → added uid valid ls ≡ drop 1 ls ++ (record { uid = uid; left = valid } ∷ [])
  unfolding added made_room
  added_full n h = rw (ne_eqb valid 0 n, le-ltb (length ls) most_locks h)

-- ---- in the store

-- p' with r locks in front is p with these locks written
abbrev pub Written : List Lock → List ℕ → ℕ → List ℕ → Type 0
Written ls p r p' = (r ≡ length ls) × (p' ≡ put 0 (locks_octets ls) p)

-- the octets behind the first lock are those of the other locks
behind-first : (n : ℕ) (p : List ℕ) → Octets p → 10 * suc n ≤ length p → locks_octets (drop 1 (locks_in (suc n) p)) ≡ part 10 (10 * n) p
unfolding locks_in rows part
behind-first n p h l = octets-locks-in n (drop 10 p) (λ i. rw get_or-drop (h (10 + i))) (simp length-drop (omega arith))

module _ (uid valid n : ℕ) (p : List ℕ) (octet : Octets p) (few : n ≤ most_locks) (long : 640 ≤ length p) where
  abbrev new : Lock
  new = record { uid = uid; left = valid }

  pub adds_none : valid ≡ 0 → Written (added uid valid (locks_in n p)) p n p
  adds_none e = rw (added_none uid valid (locks_in n p) e) (sym (locks-in-length n p), sym (put-locks-in n p octet (omega arith)))

  pub adds-room : (valid ≡ 0 → ⊥) → n < most_locks → Written (added uid valid (locks_in n p)) p (n + 1) (put (10 * n) (lock_octets new) p)
  adds-room z h =
      let m : length (locks_in n p) ≡ n = locks-in-length n p in
      rw (added-room uid valid (locks_in n p) z (omega arith), put-snoc (locks_in n p) new p, put-locks-in n p octet (omega arith))
      (simp length-append (omega arith), ap (λ (k : ℕ). put (10 * k) (lock_octets new) p) (sym m))

  pub adds-full : (valid ≡ 0 → ⊥) → most_locks ≤ n → Written (added uid valid (locks_in n p)) p n (put 630 (lock_octets new) (put 0 (part 10 630 p) p))
  adds-full z h =
      let e : n ≡ 64 = omega arith in
      let m : length (locks_in 64 p) ≡ 64 = locks-in-length 64 p in
      let d : length (drop 1 (locks_in 64 p)) ≡ 63 = simp length-drop (omega arith) in
      rw (e, added_full uid valid (locks_in 64 p) z (omega arith), put-snoc (drop 1 (locks_in 64 p)) new p, behind-first 63 p octet (omega arith), d)
      (simp length-append (omega arith), refl)
