-- A record always finds room: where each of m desks may hold s records, m * s entries are enough. Assumes nothing.
use mathlib.Core.Path.{◌≡◌, refl, ap, ◌∙◌}
use Prim.Native.Nat.{ℕ, zero, suc, ◌+◌, ◌*◌, ◌≤◌, ◌<◌}
use native.Mathlib.Nat.{mul-suc}
use native.Mathlib.Decide.{ℕ_discrete}
use native.Mathlib.Omega.{arith}
use mathlib.Core.Bool.{true}
use mathlib.Core.List.{List, [], ◌∷◌}
use lib.ListN.{length}
use lib.Dec.{ltb}
use borrow.Author.Tests.{ltb-true}
use Rattle.octets.proofs.Tests.{both}
use Rattle.octets.proofs.Rows.{rows-length}
use Rattle.table.specs.Entries.{width, desks, share, entry_count, entries, owner, records_of, owners_below}
use Rattle.table.proofs.Desks.{records_of-own, records_of-other}

-- the records of the desks below m, counted desk by desk
total : ℕ → List (List ℕ) → ℕ
total zero es = 0
total (suc m) es = total m es + length (records_of m es)

total-none : (m : ℕ) → total m [] ≡ 0
unfolding total records_of
total-none zero = refl
total-none (suc m) = rw (total-none m)

total-out : (m : ℕ) (e : List ℕ) (es : List (List ℕ)) → m ≤ owner e → total m (e ∷ es) ≡ total m es
unfolding total
total-out zero e es h = refl
total-out (suc m) e es h = rw (total-out m e es (omega arith), records_of-other m e es (λ q. omega arith))

total-in : (m : ℕ) (e : List ℕ) (es : List (List ℕ)) → owner e < m → total m (e ∷ es) ≡ suc (total m es)
unfolding total
total-in zero e es h = omega arith
total-in (suc m) e es h = go (ℕ_discrete (owner e) m) (total-in m e es)
  where
    go : Dec (owner e ≡ m) → (owner e < m → total m (e ∷ es) ≡ suc (total m es)) → total (suc m) (e ∷ es) ≡ suc (total (suc m) es)
    go (yes q) less = rw (total-out m e es (omega arith), records_of-own m e es q) (omega arith)
    go (no n) less = rw (less (omega arith), records_of-other m e es n) (omega arith)

-- where every owner is below m, each entry is counted once
total-all : (m : ℕ) (es : List (List ℕ)) → owners_below m es ≡ true → total m es ≡ length es
unfolding owners_below
total-all m [] h = total-none m
total-all m (e ∷ es) h =
    let hs = both (ltb (owner e) m) (owners_below m es) h in
    total-in m e es (ltb-true (owner e) m hs.0) ∙ ap suc (total-all m es hs.1)

total-below : (m s : ℕ) (es : List (List ℕ)) → ((c : ℕ) → c < m → length (records_of c es) ≤ s) → total m es ≤ s * m
unfolding total
total-below zero s es h = omega arith
total-below (suc m) s es h =
    let few : total m es ≤ s * m = total-below m s es (λ c l. h c (omega arith)) in
    rw mul-suc (omega (arith, h m (omega arith)))

total-less : (m s d : ℕ) (es : List (List ℕ)) → ((c : ℕ) → c < m → length (records_of c es) ≤ s) → d < m → length (records_of d es) < s → total m es < s * m
unfolding total
total-less zero s d es h l f = omega arith
total-less (suc m) s d es h l f = go (ℕ_discrete d m) (total-less m s d es (λ c k. h c (omega arith)))
  where
    go : Dec (d ≡ m) → (d < m → length (records_of d es) < s → total m es < s * m) → total (suc m) es < s * suc m
    go (yes q) less =
        let few : total m es ≤ s * m = total-below m s es (λ c k. h c (omega arith)) in
        let mine : length (records_of m es) < s = rw q at f in
        rw mul-suc (omega arith)
    go (no n) less =
        let few : total m es < s * m = less (omega arith) f in
        rw mul-suc (omega (arith, h m (omega arith)))

-- so a desk that holds fewer than its share finds room
pub room : (m s d : ℕ) (es : List (List ℕ)) → owners_below m es ≡ true → ((c : ℕ) → c < m → length (records_of c es) ≤ s)
    → d < m → length (records_of d es) < s → length es < s * m
room m s d es o h l f = rw (total-all m es o) at (total-less m s d es h l f)

-- so entry n of this box's table is free
pub room-entry : (n d : ℕ) (t : List ℕ) → owners_below desks (entries n t) ≡ true → ((c : ℕ) → c < desks → length (records_of c (entries n t)) ≤ share)
    → d < desks → length (records_of d (entries n t)) < share → n < entry_count
room-entry n d t o h l f = omega (arith, room desks share d (entries n t) o h l f, rows-length n width t)
