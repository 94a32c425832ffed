-- The row of a desk: lent, changed and back. From a row or entries anew to what the store then says. Assumes nothing.
use Prim.Native.Nat.{ℕ, ◌+◌, ◌-◌, ◌≤◌, ◌<◌}
use mathlib.Core.Path.{◌≡◌, sym, ap, ◌∙◌}
use mathlib.Core.Bool.{true}
use mathlib.Core.List.{List, [], ◌++◌}
use native.Mathlib.Omega.{arith}
use lib.ListN.{length, take, drop, set, get_or}
use lib.Seq.{set-get_or, set-set, get_or-set_same}
use Rattle.octets.specs.Parts.{part, put}
use Rattle.octets.proofs.Numbers.{number_at}
use Rattle.octets.proofs.Lent.{put-mid}
use Rattle.octets.proofs.Rows.{rows-length}
use Rattle.locks.specs.Locks.{most_locks}
use Rattle.table.specs.Entries.{desks, entry_count, entries, records_of, owners_below}
use Rattle.rules.specs.Desk.{Desk, fresh_desk}
use Rattle.rules.specs.Box.{desk_at}
use Rattle.rules.specs.Legal.{desk_legal}
use Rattle.rules.proofs.Facts.{DeskLegal, desk-facts}
use Rattle.store.specs.Layout.{store_size, row_width, size_of, header, start_of, areas, row_at, row_of, recounted, rows_area, entries_area}
use Rattle.store.specs.Rows.{field, count_at}
use Rattle.store.specs.View.{desk_in, rows_in, in_use, view_of, view}
use Rattle.store.specs.Sound.{sound}
use Rattle.store.proofs.Boxes.{box-length}
use Rattle.store.proofs.Changes.{Flagged, Sound, sound-facts, sound-test}
use Rattle.store.proofs.Untouched.{untouched-same, untouched-then}
use Rattle.views.proofs.Anew.{row-length, row-flags, desk-is, Left, row-anew, entries-anew, row_inside as inside}
use Rattle.views.proofs.LegalView.{legal-at, few-locks as locks-few}
use Rattle.rows.specs.Change.{Fit, Change}
use Rattle.keeping.specs.Kept.{kept, Says}

pub sound-size : (s : List ℕ) → sound s ≡ true → length s ≡ store_size
sound-size s e = (sound-facts s e).size

-- ---- the desk by its row and its records

module _ (s : List ℕ) (e : sound s ≡ true) (d : ℕ) (h : d < desks) where
  facts : Sound s
  facts = sound-facts s e

  pub kept-is : kept d s ≡ desk_in (row_of d s) (records_of d (in_use s))
  kept-is = desk-is s facts d h

  pub row-fit : Fit (row_of d s)
  row-fit = record { size = row-length s facts d h; login = (row-flags s facts d h).login; mark = (row-flags s facts d h).mark }

  pub few-locks : get_or (row_of d s) count_at 0 ≤ most_locks
  unfolding field
  few-locks = rw number_at at (locks-few s facts d h)

  pub kept-legal : DeskLegal (kept d s)
  kept-legal = legal-at s facts d

  -- ---- what the store then says

  pub unchanged : Says d (kept d s) s s
  unfolding desk_at
  unchanged = record { still = e; view-is = sym (set-get_or (view s) d fresh_desk); alone = untouched-same s }

  -- a change of the row that leaves a legal desk
  pub row-changed : (f : Desk → Desk) (row : List ℕ) → Change f (row_of d s) row → DeskLegal (f (kept d s)) → Says d (f (kept d s)) s (put (row_at d s) row s)
  row-changed f row c p =
      let q : desk_in row (records_of d (in_use s)) ≡ f (kept d s) = c.means (records_of d (in_use s)) ∙ ap f (sym kept-is) in
      let flags : Flagged row = record { login = c.fit.login; mark = c.fit.mark } in
      let left : Left d row (records_of d (in_use s)) s (put (row_at d s) row s) = row-anew s facts d h row c.fit.size flags (rw q p) in
      record { still = sound-test _ left.still; view-is = left.now-view ∙ ap (set (view s) d) q; alone = left.alone }

  -- the entries anew: those of other desks as they were
  pub entries-say : (t : List ℕ) (n : ℕ) (desk' : Desk) → (l : length t ≡ size_of entries_area) → (few : n ≤ entry_count) → owners_below desks (entries n t) ≡ true
      → ((c : ℕ) → c < desks → (c ≡ d → ⊥) → records_of c (entries n t) ≡ records_of c (in_use s))
      → desk_in (row_of d s) (records_of d (entries n t)) ≡ desk' → DeskLegal desk'
      → Says d desk' s (recounted n (put (start_of (header s) entries_area) t s))
  entries-say t n desk' l few ok others q p =
      let left : Left d (row_of d s) (records_of d (entries n t)) s (recounted n (put (start_of (header s) entries_area) t s)) = entries-anew s facts d h t l n few ok others (rw q p) in
      record { still = sound-test _ left.still; view-is = left.now-view ∙ ap (set (view s) d) q; alone = left.alone }

  -- ---- the row, lent: at is where it begins

  pub row_inside : row_at d s + row_width ≤ length s
  row_inside = inside s facts d h

  module _ (at : ℕ) (a : at ≡ row_at d s) where
    pub lent-inside : at + row_width ≤ length s
    lent-inside = omega (arith, row_inside)

    pub lent_row : take (at + row_width - at) (drop at s) ≡ row_of d s
    unfolding part
    lent_row = let n : at + row_width - at ≡ row_width = omega arith in rw (n, a)

    pub lent-fit : Fit (take (at + row_width - at) (drop at s))
    lent-fit = rw lent_row row-fit

    pub lent-few : get_or (take (at + row_width - at) (drop at s)) count_at 0 ≤ most_locks
    lent-few = rw lent_row few-locks

    -- it came back changed
    pub lent_back : (f : Desk → Desk) (ys : List ℕ) → Change f (take (at + row_width - at) (drop at s)) ys → DeskLegal (f (kept d s))
        → Says d (f (kept d s)) s (take at s ++ (ys ++ drop (at + row_width - at) (drop at s)))
    lent_back f ys c p =
        let back : take at s ++ (ys ++ drop (at + row_width - at) (drop at s)) ≡ put (row_at d s) ys s =
        put-mid at (at + row_width - at) ys s (c.fit.size ∙ sym lent-fit.size) (omega (arith, row_inside)) ∙ ap (λ (i : ℕ). put i ys s) a in
        rw back (row-changed f ys (rw lent_row at c) p)

    pub lent-done : (f : Desk → Desk) (ys : List ℕ) → Change f (take (at + row_width - at) (drop at s)) ys → desk_legal (f (kept d s)) ≡ true
        → Says d (f (kept d s)) s (take at s ++ (ys ++ drop (at + row_width - at) (drop at s)))
    lent-done f ys c p = lent_back f ys c (desk-facts (f (kept d s)) p)

-- ---- one after the other at the same desk

pub says_then : (d : ℕ) (one two : Desk) (s s' s'' : List ℕ) → Says d one s s' → Says d two s' s'' → Says d two s s''
says_then d one two s s' s'' a b =
    record {
      still = b.still;
      view-is = b.view-is ∙ ap (λ (v : List Desk). set v d two) a.view-is ∙ set-set (view s) d one two;
      alone = untouched-then s s' s'' a.alone b.alone;
    }

pub view-length : (s : List ℕ) → length (view s) ≡ desks
unfolding view view_of
view-length s = box-length 0 (rows_in (areas s)) (in_use s) ∙ rows-length desks row_width (get_or (areas s) rows_area [])

pub kept-now : (d : ℕ) (desk' : Desk) (s s' : List ℕ) → d < desks → Says d desk' s s' → kept d s' ≡ desk'
unfolding desk_at
kept-now d desk' s s' h a =
    ap (λ (v : List Desk). get_or v d fresh_desk) a.view-is ∙ get_or-set_same (view s) d desk' fresh_desk (omega (arith, view-length s))
