-- Laws of `owners_below`: every entry has a desk for its owner. Assumes nothing.
use mathlib.Core.Path.{◌≡◌, refl, ◌∙◌}
use Prim.Native.Nat.{ℕ, zero, suc, ◌≤◌, ◌<◌}
use native.Mathlib.Decide.{dec_lt}
use native.Mathlib.Omega.{arith}
use mathlib.Core.Bool.{Bool, true, false, cond, ◌&&◌}
use mathlib.Core.List.{List, [], ◌∷◌, ◌++◌}
use lib.Dec.{eqb, ltb}
use borrow.Author.Tests.{ltb-true, lt-ltb}
use Rattle.octets.proofs.Tests.{both, and_both, and_assoc}
use Rattle.octets.proofs.Rows.{rows_snoc}
use Rattle.table.specs.Entries.{entries, entry_at, owner, without, owners_below}

pub owners_below-append : (m : ℕ) (es fs : List (List ℕ)) → owners_below m (es ++ fs) ≡ owners_below m es && owners_below m fs
unfolding owners_below
owners_below-append m [] fs = refl
owners_below-append m (e ∷ es) fs = rw (owners_below-append m es fs) (and_assoc (ltb (owner e) m) (owners_below m es) (owners_below m fs))

pub owners_below-one : (m : ℕ) (e : List ℕ) → owner e < m → owners_below m (e ∷ []) ≡ true
unfolding owners_below
owners_below-one m e h = and_both (ltb (owner e) m) true (lt-ltb (owner e) m h) refl

-- one entry behind
pub owners_below-snoc : (m : ℕ) (es : List (List ℕ)) (e : List ℕ) → owners_below m es ≡ true → owner e < m → owners_below m (es ++ e ∷ []) ≡ true
owners_below-snoc m es e o h = owners_below-append m es (e ∷ []) ∙ and_both (owners_below m es) (owners_below m (e ∷ [])) o (owners_below-one m e h)

-- some entries less
pub owners_below-without : (m d k : ℕ) (es : List (List ℕ)) → owners_below m es ≡ true → owners_below m (without d k es) ≡ true
unfolding owners_below without
owners_below-without m d k [] h = refl
owners_below-without m d zero (e ∷ es) h = h
owners_below-without m d (suc k) (e ∷ es) h =
    let hs = both (ltb (owner e) m) (owners_below m es) h in
    go (eqb (owner e) d) hs.0 (owners_below-without m d k es hs.1) (owners_below-without m d (suc k) es hs.1)
  where
    go : (b : Bool) → ltb (owner e) m ≡ true → owners_below m (without d k es) ≡ true → owners_below m (without d (suc k) es) ≡ true
        → owners_below m (cond b (without d k es) (e ∷ without d (suc k) es)) ≡ true
    go true x own other = own
    go false x own other = rw (x, other)

-- each entry of a table
pub owners_below-at : (m n i : ℕ) (t : List ℕ) → owners_below m (entries n t) ≡ true → i < n → owner (entry_at i t) < m
unfolding owners_below
owners_below-at m zero i t o h = absurd (omega arith)
owners_below-at m (suc n) i t o h =
    let e : List ℕ = entry_at n t in
    let hs = both (owners_below m (entries n t)) (owners_below m (e ∷ [])) (rw (rows_snoc, owners_below-append) at o) in
    elim (dec_lt i n) [
      | yes l ↦ owners_below-at m n i t hs.0 l
      | no g ↦ let q : n ≡ i = omega arith in rw (← q) (ltb-true (owner e) m (both (ltb (owner e) m) true hs.1).0)
    ]

-- an owner that is no desk
pub owners_below-past : (m n i : ℕ) (t : List ℕ) → i < n → m ≤ owner (entry_at i t) → owners_below m (entries n t) ≡ false
owners_below-past m n i t h p = go (owners_below m (entries n t)) refl
  where
    go : (b : Bool) → owners_below m (entries n t) ≡ b → b ≡ false
    go true q = absurd (omega (arith, owners_below-at m n i t q h))
    go false q = refl
