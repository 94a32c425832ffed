-- What `append` and `remove` leave of a table, and how much `gather` writes: laws for callers. Assumes nothing.
use mathlib.Core.Path.{◌≡◌, refl, sym}
use Prim.Native.Nat.{ℕ, ◌+◌, ◌*◌, ◌≤◌, ◌<◌}
use native.Mathlib.Omega.{arith}
use mathlib.Core.Bool.{true}
use mathlib.Core.List.{List, [], ◌∷◌, ◌++◌}
use lib.ListN.{length, take, drop}
use Rattle.octets.specs.Parts.{put, joined}
use Rattle.octets.proofs.Rows.{Wide, wide-take, rows-wide, rows-length, length-joined, rows_before, rows_more, rows-joined}
use Rattle.table.specs.Entries.{width, record_width, desks, entries, records_of, without, owners_below}
use Rattle.table.proofs.Desks.{records_of-snoc-own, records_of-snoc-other, records_of-wide, without-records, without-others, without-length, without-wide}
use Rattle.table.proofs.Owners.{owners_below-snoc, owners_below-without}

-- a put behind the entries in use changes none
pub entries-behind : (n at : ℕ) (xs t : List ℕ) → width * n ≤ at → entries n (put at xs t) ≡ entries n t
entries-behind n at xs t h = rows_before n width at xs t h

-- the entries after `append` of a record r of desk d
abbrev pub appended : ℕ → ℕ → List ℕ → List ℕ → List (List ℕ)
appended n d r t = entries (n + 1) (put (width * n) (d ∷ r) t)

module _ (n d : ℕ) (r t : List ℕ) (wide : length r ≡ record_width) (fits : width * (n + 1) ≤ length t) where
  pub append-entries : appended n d r t ≡ entries n t ++ (d ∷ r) ∷ []
  append-entries = rows_more n width (d ∷ r) t (omega arith) fits

  pub append-owners : owners_below desks (entries n t) ≡ true → d < desks → owners_below desks (appended n d r t) ≡ true
  append-owners o h = rw append-entries (owners_below-snoc desks (entries n t) (d ∷ r) o h)

  -- the desk has one record more, and every other what it had
  pub append-own : records_of d (appended n d r t) ≡ records_of d (entries n t) ++ r ∷ []
  append-own = rw append-entries (records_of-snoc-own d (entries n t) (d ∷ r) refl)

  pub append-others : (c : ℕ) → (c ≡ d → ⊥) → records_of c (appended n d r t) ≡ records_of c (entries n t)
  append-others c h = rw append-entries (records_of-snoc-other c (entries n t) (d ∷ r) (λ q. h (sym q)))

-- the entries after `remove` of the first k records of desk d
abbrev pub removed : ℕ → ℕ → ℕ → List ℕ → List (List ℕ)
removed n d k t = entries (length (without d k (entries n t))) (put 0 (joined (without d k (entries n t))) t)

module _ (n d k : ℕ) (t : List ℕ) (fits : width * n ≤ length t) where
  kept-wide : Wide width (without d k (entries n t))
  kept-wide = without-wide width d k (entries n t) (rows-wide n width t fits)

  -- no more entries than there were, in no more room
  pub remove-fewer : length (without d k (entries n t)) ≤ n
  remove-fewer = omega (arith, without-length d k (entries n t), rows-length n width t)

  pub remove-size : length (joined (without d k (entries n t))) ≤ width * n
  remove-size = omega (arith, remove-fewer, length-joined width (without d k (entries n t)) kept-wide)

  pub remove-entries : removed n d k t ≡ without d k (entries n t)
  remove-entries = rows-joined width (without d k (entries n t)) t kept-wide (omega (arith, remove-fewer))

  pub remove-owners : owners_below desks (entries n t) ≡ true → owners_below desks (removed n d k t) ≡ true
  remove-owners o = rw remove-entries (owners_below-without desks d k (entries n t) o)

  -- the desk loses its first k records, and every other has what it had
  pub remove-own : records_of d (removed n d k t) ≡ drop k (records_of d (entries n t))
  remove-own = rw remove-entries (without-records d k (entries n t))

  pub remove-others : (c : ℕ) → (c ≡ d → ⊥) → records_of c (removed n d k t) ≡ records_of c (entries n t)
  remove-others c h = rw remove-entries (without-others d k c (entries n t) h)

  -- `gather` of the first m records of desk d writes so many octets
  pub gather-size : (m : ℕ) → length (joined (take m (records_of d (entries n t)))) ≡ record_width * length (take m (records_of d (entries n t)))
  gather-size m =
      length-joined record_width (take m (records_of d (entries n t)))
      (wide-take record_width m (records_of d (entries n t)) (records_of-wide record_width d (entries n t) (rows-wide n width t fits)))
