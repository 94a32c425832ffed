-- Every legal box is what some sound store says: the rows of its desks, and the records of desk 0, then of desk 1, and so on, laid out as the fresh store is.
-- So is the fresh store of the fresh box. Assumes nothing.
use Prim.Native.Nat.{ℕ, zero, suc, ◌+◌, ◌*◌, ◌≤◌, ◌<◌}
use mathlib.Core.Path.{◌≡◌, refl, sym, ap, ap₂, ◌∙◌}
use mathlib.Core.Bool.{true}
use mathlib.Core.List.{List, [], ◌∷◌, ◌++◌, map, append-nil}
use native.Mathlib.Nat.{add-zero, add-suc, suc-add, mul-suc}
use native.Mathlib.Omega.{arith}
use lib.Dec.{lit<, ltb}
use lib.ListN.{length, replicate, length-append, length-map}
use borrow.Author.Tests.{lt-ltb}
use Rattle.octets.proofs.Tests.{and_both}
use Rattle.octets.specs.Parts.{put, joined}
use Rattle.octets.specs.Each.{All, Octet}
use Rattle.octets.proofs.Each.{all_append, all_replicate}
use Rattle.octets.proofs.Rows.{Wide}
use Rattle.table.specs.Entries.{width, desks, share, entry_count, owner, records_of, owners_below}
use Rattle.table.proofs.Desks.{records_of-own, records_of-other, records_of-append}
use Rattle.rules.specs.Desk.{fresh_desk, empty_table}
use Rattle.rules.specs.Box.{Box, fresh_box, desk_at}
use Rattle.rules.specs.Legal.{box_legal}
use Rattle.rules.proofs.Facts.{RecordLegal, DeskLegal, BoxLegal, box-facts}
use Rattle.store.specs.Layout.{store_size, row_width}
use Rattle.fresh.specs.Fresh.{fresh_row, fresh_store}
use Rattle.store.specs.View.{box_from, view}
use Rattle.store.specs.Sound.{sound}
use Rattle.store.proofs.Changes.{Flagged}
use Rattle.views.proofs.Laid.{laid, laid-octets, laid-sound, laid-says, none-used, zeros, zeros-size}
use Rattle.views.proofs.DeskRows.{octets-joined, row_for, row-length, row-octets, row-says, row-flags, fresh-row}

-- ---- the entries of desk k, and of the desks of a box, counted from k

entries_of : ℕ → List (List ℕ) → List (List ℕ)
entries_of k rs = map (λ (r : List ℕ). k ∷ r) rs

entries_from : ℕ → Box → List (List ℕ)
entries_from k [] = []
entries_from k (d ∷ box) = entries_of k d.table.held ++ entries_from (suc k) box

-- ---- the records in them

own-records : (k : ℕ) (rs : List (List ℕ)) → records_of k (entries_of k rs) ≡ rs
unfolding entries_of records_of
own-records k [] = refl
own-records k (r ∷ rs) = records_of-own k (k ∷ r) (entries_of k rs) refl ∙ ap (λ (l : List (List ℕ)). r ∷ l) (own-records k rs)

no-records : (c k : ℕ) (rs : List (List ℕ)) → (k ≡ c → ⊥) → records_of c (entries_of k rs) ≡ []
unfolding entries_of records_of
no-records c k [] n = refl
no-records c k (r ∷ rs) n = records_of-other c (k ∷ r) (entries_of k rs) n ∙ no-records c k rs n

none_before : (c k : ℕ) (box : Box) → c < k → records_of c (entries_from k box) ≡ []
unfolding entries_from records_of
none_before c k [] l = refl
none_before c k (d ∷ box) l =
    records_of-append c (entries_of k d.table.held) (entries_from (suc k) box)
    ∙ ap₂ ◌++◌ (no-records c k d.table.held (λ q. omega arith)) (none_before c (suc k) box (omega arith))

records-at : (k i : ℕ) (box : Box) → i < length box → records_of (k + i) (entries_from k box) ≡ (desk_at box i).table.held
unfolding entries_from desk_at
records-at k i [] l = absurd (omega arith)
records-at k zero (d ∷ box) l =
    rw (add-zero, records_of-append, own-records k d.table.held, none_before k (suc k) box (omega arith)) (append-nil d.table.held)
records-at k (suc i) (d ∷ box) l =
    rw (records_of-append, no-records (k + suc i) k d.table.held (λ q. omega arith), add-suc, ← suc-add) (records-at (suc k) i box (omega arith))

-- ---- each of them: owned by a desk, as wide as an entry, of octets

record EntryRight (e : List ℕ) : Type 0 where
  owned : owner e < desks
  size : length e ≡ width
  octets : All Octet e

-- a rule of each element, where each is changed
all-mapped : {A B : Type 0} (f : A → B) (P : A → Type 0) (Q : B → Type 0) → ((x : A) → P x → Q (f x)) → (xs : List A) → All P xs → All Q (map f xs)
all-mapped f P Q h [] p = tt
all-mapped f P Q h (x ∷ xs) p = (h x p.0, all-mapped f P Q h xs p.1)

own-right : (k : ℕ) (rs : List (List ℕ)) → k < desks → All RecordLegal rs → All EntryRight (entries_of k rs)
unfolding entries_of
own-right k rs l p =
    all-mapped (λ (r : List ℕ). k ∷ r) RecordLegal EntryRight (λ r q. record { owned = l; size = ap suc q.size; octets = (omega arith, q.octets) }) rs p

all_right : (k : ℕ) (box : Box) → k + length box ≤ desks → All DeskLegal box → All EntryRight (entries_from k box)
unfolding entries_from
all_right k [] l p = tt
all_right k (d ∷ box) l p =
    all_append EntryRight (entries_of k d.table.held) (entries_from (suc k) box)
    (own-right k d.table.held (omega arith) p.0.table.each) (all_right (suc k) box (omega arith) p.1)

right-owners : (es : List (List ℕ)) → All EntryRight es → owners_below desks es ≡ true
unfolding owners_below
right-owners [] p = refl
right-owners (e ∷ es) p = and_both (ltb (owner e) desks) (owners_below desks es) (lt-ltb (owner e) desks p.0.owned) (right-owners es p.1)

right-wide : (es : List (List ℕ)) → All EntryRight es → Wide width es
unfolding Wide
right-wide [] p = tt
right-wide (e ∷ es) p = (p.0.size, right-wide es p.1)

right-octets : (es : List (List ℕ)) → All EntryRight es → All (All Octet) es
right-octets [] p = tt
right-octets (e ∷ es) p = (p.0.octets, right-octets es p.1)

entries-few : (k : ℕ) (box : Box) → All DeskLegal box → length (entries_from k box) ≤ share * length box
unfolding entries_from entries_of
entries-few k [] p = omega arith
entries-few k (d ∷ box) p =
    rw (length-append, mul-suc)
    (omega (arith, length-map d.table.held (λ (r : List ℕ). k ∷ r), p.0.table.few, entries-few (suc k) box p.1))

-- ---- the rows

rows_for : Box → List (List ℕ)
rows_for box = map row_for box

rows-wide : (box : Box) → All DeskLegal box → Wide row_width (rows_for box)
unfolding Wide rows_for
rows-wide [] p = tt
rows-wide (d ∷ box) p = (row-length d p.0, rows-wide box p.1)

-- with records like those of its desks, the rows say the box
rows-say : (k : ℕ) (box : Box) (es : List (List ℕ)) → All DeskLegal box → ((i : ℕ) → i < length box → records_of (k + i) es ≡ (desk_at box i).table.held)
    → box_from k (rows_for box) es ≡ box
unfolding box_from rows_for desk_at
rows-say k [] es p h = refl
rows-say k (d ∷ box) es p h =
    ap₂ ◌∷◌ (rw (rw add-zero at (h 0 (omega arith))) (row-says d p.0))
    (rows-say (suc k) box es p.1 (λ i l. rw (suc-add, ← add-suc) (h (suc i) (omega arith))))

-- ---- the store

-- a box, laid out as the fresh store is
pub stored : Box → List ℕ
stored box = laid (rows_for box) (entries_from 0 box) zeros

module _ (box : Box) (p : BoxLegal box) where
  abbrev its : List (List ℕ)
  its = entries_from 0 box

  its-right : All EntryRight its
  its-right = all_right 0 box (omega (arith, p.size)) p.each

  count : length (rows_for box) ≡ desks
  unfolding rows_for
  count = length-map box row_for ∙ p.size

  few : length its ≤ entry_count
  few = omega (arith, entries-few 0 box p.each, p.size)

  says-box : box_from 0 (rows_for box) its ≡ box
  says-box = rows-say 0 box its p.each (λ i l. records-at 0 i box l)

  stored-octets : All Octet (stored box)
  unfolding stored rows_for zeros
  stored-octets =
      laid-octets (rows_for box) its zeros (octets-joined (rows_for box) (all-mapped row_for DeskLegal (All Octet) row-octets box p.each))
      (octets-joined its (right-octets its its-right)) (all_replicate Octet store_size 0 (lit< tt))

  pub stored-sound : sound (stored box) ≡ true
  unfolding stored rows_for
  stored-sound =
      laid-sound (rows_for box) its zeros zeros-size count (rows-wide box p.each) (right-wide its its-right) few
      (right-owners its its-right) (all-mapped row_for DeskLegal Flagged row-flags box p.each) (rw says-box p)

  pub stored-says : view (stored box) ≡ box
  unfolding stored
  stored-says = laid-says (rows_for box) its zeros zeros-size count (rows-wide box p.each) (right-wide its its-right) few ∙ says-box

-- a store of octets that is sound and says the box
pub record Said (box : Box) : Type 0 where
  pub store : List ℕ
  pub octets : All Octet store
  pub still : sound store ≡ true
  pub says : view store ≡ box

pub every-box : (box : Box) → box_legal box ≡ true → Said box
every-box box e =
    let p : BoxLegal box = box-facts box e in
    record { store = stored box; octets = stored-octets box p; still = stored-sound box p; says = stored-says box p }

-- the fresh store is so laid out
none-held : entries_from 0 fresh_box ≡ []
unfolding entries_from entries_of fresh_box fresh_desk empty_table
none-held = refl

rows_alike : (n : ℕ) → rows_for (replicate n fresh_desk) ≡ replicate n fresh_row
unfolding rows_for
rows_alike zero = refl
rows_alike (suc n) = ap₂ ◌∷◌ fresh-row (rows_alike n)

pub fresh-stored : fresh_store ≡ stored fresh_box
unfolding fresh_store stored fresh_box laid put joined zeros
fresh-stored = sym (rw (none-held, rows_alike desks, none-used))
