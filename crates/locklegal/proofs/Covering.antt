-- A list of locks from its last to its first: the buckets of those behind a place, whether one stands among them, and whether they differ.
-- Assumes nothing.
use Prim.Native.Nat.{ℕ, zero, suc, ◌+◌, ◌-◌, ◌≤◌, ◌<◌}
use mathlib.Core.Path.{◌≡◌, refl, sym, ap, ◌∙◌}
use mathlib.Core.Bool.{Bool, true, false, not, true≢false, and-false, ◌||◌, ◌&&◌}
use mathlib.Core.List.{List, [], ◌∷◌}
use native.Mathlib.Omega.{arith}
use borrow.Author.Tests.{eqb-true, eqb-false}
use lib.Dec.{eqb, leb}
use lib.ListN.{length, take, drop, set, get_or, length-set, drop_of_length-le}
use lib.Seq.{get_or-set_same, get_or-set_other}
use Rattle.std.specs.List.{list_all}
use Rattle.std.proofs.lemmas.List.{drop_more, take_rest}
use Rattle.std.specs.Prelude.{Option, is_some}
use Rattle.octets.specs.Tests.{all_of}
use Rattle.locks.specs.declared.Lock.{Lock}
use Rattle.locks.specs.Locks.{lock_legal, locked, distinct, found_from, found_in}
use Rattle.locklegal.specs.Buckets.{bucket_of, Covered}
use Rattle.locks.proofs.Lookups.{locked-cons}

-- ---- the library's test of a list

pub all-legal : (valid : ℕ) (ls : List Lock) → list_all (λ l. leb 1 l.left && leb l.left valid) ls ≡ all_of (lock_legal valid) ls
unfolding all_of lock_legal
all-legal valid [] = refl
all-legal valid (l ∷ ls) = ap (λ (b : Bool). (leb 1 l.left && leb l.left valid) && b) (all-legal valid ls)

-- ---- buckets

bucket-below : (uid : ℕ) → bucket_of uid < 256
bucket-below uid = omega arith

-- none stands, so none need be taken
covered-nil : (taken : List Bool) → Covered taken []
unfolding found_from
covered-nil taken = record { each = λ uid e. absurd (true≢false (sym e)) }

covered-cons : (taken : List Bool) (l : Lock) (ls : List Lock) → length taken ≡ 256 → Covered taken ls → Covered (set taken (bucket_of l.uid) true) (l ∷ ls)
covered-cons taken l ls size m = record { each = λ uid e. go uid (eqb l.uid uid) refl (sym (locked-cons uid l ls) ∙ e) }
  where
    here : (uid : ℕ) → bucket_of uid ≡ bucket_of l.uid → get_or (set taken (bucket_of l.uid) true) (bucket_of uid) false ≡ true
    here uid e = rw e (get_or-set_same taken (bucket_of l.uid) true false (omega (arith, bucket-below l.uid)))

    other : (uid : ℕ) (b : Bool) → eqb (bucket_of uid) (bucket_of l.uid) ≡ b → get_or taken (bucket_of uid) false ≡ true → get_or (set taken (bucket_of l.uid) true) (bucket_of uid) false ≡ true
    other uid true e h = here uid (eqb-true _ _ e)
    other uid false e h = get_or-set_other taken (bucket_of l.uid) (bucket_of uid) true false (eqb-false _ _ e) ∙ h

    go : (uid : ℕ) (b : Bool) → eqb l.uid uid ≡ b → (eqb l.uid uid || locked uid ls) ≡ true → get_or (set taken (bucket_of l.uid) true) (bucket_of uid) false ≡ true
    go uid true e h = here uid (ap bucket_of (sym (eqb-true l.uid uid e)))
    go uid false e h = other uid (eqb (bucket_of uid) (bucket_of l.uid)) refl (m.each uid (rw e at h))

-- a UID whose bucket is not taken does not stand
pub uncovered : (taken : List Bool) (ls : List Lock) (uid : ℕ) → Covered taken ls → get_or taken (bucket_of uid) false ≡ false → locked uid ls ≡ false
uncovered taken ls uid m h = go (locked uid ls) refl
  where
    go : (b : Bool) → locked uid ls ≡ b → b ≡ false
    go true e = absurd (true≢false (sym (m.each uid e) ∙ h))
    go false e = refl

-- ---- a loop that goes from the last to the first

-- what holds before the lock at i - 1 is looked at: those behind it differ, and their buckets are taken
abbrev pub Behind : List Bool → ℕ → List Lock → Type 0
Behind taken i ls = (length taken ≡ 256) × (distinct (drop i ls) ≡ true) × Covered taken (drop i ls)

pub behind_none : (taken : List Bool) (ls : List Lock) → length taken ≡ 256 → Behind taken (length ls) ls
unfolding distinct
behind_none taken ls size =
    let none : drop (length ls) ls ≡ [] = drop_of_length-le ls {i = length ls} (omega arith) in
    rw none (size, refl, covered-nil taken)

-- where the locks behind a place are not distinct, all are not
behind-fails : (i : ℕ) (ls : List Lock) → distinct (drop i ls) ≡ false → distinct ls ≡ false
unfolding distinct
behind-fails zero ls e = e
behind-fails (suc i) [] e = e
behind-fails (suc i) (l ∷ ls) e = rw (behind-fails i ls e) (and-false (not (locked l.uid ls)))

module _ (ls : List Lock) (i : ℕ) (d : Lock) (h : 0 < i) (within : i ≤ length ls) where
  abbrev here : Lock
  here = get_or ls (i - 1) d

  next : drop (i - 1) ls ≡ here ∷ drop i ls
  next =
      let e : i - 1 + 1 ≡ i = omega arith in
      drop_more ls (i - 1) d (omega arith) ∙ ap (λ (k : ℕ). here ∷ drop k ls) e

  -- what a search behind it tells
  pub looked : (found : Option (ℕ × ℕ)) (b t : Bool) → found ≡ found_in here.uid (take (length ls - (i - 1 + 1)) (drop (i - 1 + 1) ls)) → b ≡ is_some found → b ≡ t
      → locked here.uid (drop i ls) ≡ t
  looked found b t told is e =
      let behind : i - 1 + 1 ≡ i = omega arith in
      let search_is = rw (behind, take_rest) at told in
      ap is_some (sym search_is) ∙ sym is ∙ e

  twice : locked here.uid (drop i ls) ≡ true → distinct (here ∷ drop i ls) ≡ false
  unfolding distinct
  twice e = rw e

  pub stands_behind : locked here.uid (drop i ls) ≡ true → distinct ls ≡ false
  stands_behind e = behind-fails (i - 1) ls (rw next (twice e))

  pub behind_more : (taken : List Bool) (bucket : ℕ) → bucket ≡ bucket_of here.uid → locked here.uid (drop i ls) ≡ false → Behind taken i ls → Behind (set taken bucket true) (i - 1) ls
  unfolding distinct
  behind_more taken bucket b e m =
      rw (next, b) (simp length-set m.0, rw e m.1, covered-cons taken here (drop i ls) m.0 m.2)
