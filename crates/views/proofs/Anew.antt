-- A desk's row anew, or the entries anew: the store stays sound, and the view changes at that desk alone. Assumes nothing.
use Prim.Native.Nat.{ℕ, ◌+◌, ◌*◌, ◌≤◌, ◌<◌}
use mathlib.Core.Path.{◌≡◌, sym, ap, subst, ◌∙◌}
use mathlib.Core.List.{List, []}
use mathlib.Core.Bool.{true}
use native.Mathlib.Nat.{add-zero, zero-add}
use native.Mathlib.Omega.{arith}
use lib.ListN.{length, get_or, set, length-set}
use lib.Dec.{lit<, lit≤}
use Rattle.octets.specs.Parts.{part, put, rows}
use Rattle.octets.specs.Numbers.{number, octets}
use Rattle.octets.specs.Areas.{upto, change}
use Rattle.octets.proofs.Each.{all-get_or, all_set}
use Rattle.octets.proofs.Puts.{put-length, put_whole, part_length, part-put-same}
use Rattle.octets.proofs.Rows.{rows-length, rows-put, rows_at}
use Rattle.table.specs.Entries.{desks, entry_count, entries, records_of, owners_below}
use Rattle.rules.specs.Desk.{Desk, fresh_desk}
use Rattle.rules.specs.Box.{Box, desk_at}
use Rattle.rules.proofs.Facts.{DeskLegal, BoxLegal}
use Rattle.store.specs.Layout.{recounted, store_size, row_width, size_of, header, start_of, used_of, area, areas, row_at, row_of, header_area, rows_area, entries_area, used_at}
use Rattle.store.specs.Rows.{field}
use Rattle.store.specs.View.{desk_in, rows_in, entries_in, in_use, view_of, view}
use Rattle.store.specs.Untouched.{Untouched}
use Rattle.store.proofs.LentAreas.{row_in}
use Rattle.store.proofs.Places.{used-counted, counted-fine}
use Rattle.views.proofs.Boxes.{box-at, box-row, box-records}
use Rattle.store.proofs.Changes.{Flagged, Sound, area-length, into_area, header-kept, header-counted, header-length, into-count}
use Rattle.store.proofs.Untouched.{untouched-then, untouched-into, untouched-count}

none-flagged : Flagged []
unfolding field part number
none-flagged = record { login = lit≤ tt; mark = lit≤ tt }

-- ---- the row of a desk

module _ (s : List ℕ) (f : Sound s) (d : ℕ) (h : d < desks) where
  pub row_is : get_or (rows_in (areas s)) d [] ≡ row_of d s
  row_is = row_in s d h

  pub row_inside : row_at d s + row_width ≤ length s
  row_inside = omega (arith, f.head.within rows_area (lit< tt), f.size)

  pub row-length : length (row_of d s) ≡ row_width
  row-length = part_length (row_at d s) row_width s row_inside

  pub row-flags : Flagged (row_of d s)
  row-flags = rw (← row_is) (all-get_or Flagged (rows_in (areas s)) d [] f.flags none-flagged)

  -- what the store says of the desk
  pub desk-is : desk_at (view s) d ≡ desk_in (row_of d s) (records_of d (in_use s))
  unfolding desk_at view view_of
  desk-is =
      box-at 0 (rows_in (areas s)) (in_use s) d fresh_desk (omega (arith, rows-length desks row_width (get_or (areas s) rows_area [])))
      ∙ ap (λ (r : List ℕ). desk_in r (records_of (0 + d) (in_use s))) row_is ∙ rw zero-add

-- a legal box stays legal where a legal desk is put in
set-legal : (box : Box) (d : ℕ) (desk : Desk) → BoxLegal box → DeskLegal desk → BoxLegal (set box d desk)
set-legal box d desk p q = record { size = simp length-set p.size; each = all_set DeskLegal box d desk p.each q }

pub record Left (d : ℕ) (row : List ℕ) (rs : List (List ℕ)) (s s' : List ℕ) : Type 0 where
  pub still : Sound s'
  pub now-view : view s' ≡ set (view s) d (desk_in row rs)
  pub alone : Untouched s s'

-- ---- the row of a desk anew

module _ (s : List ℕ) (f : Sound s) (d : ℕ) (h : d < desks) (row : List ℕ) (l : length row ≡ row_width) where
  rows-now : rows_in (areas (put (row_at d s) row s)) ≡ set (rows_in (areas s)) d row
  unfolding areas upto
  rows-now =
      let e : row_width * d ≡ d * row_width + 0 = omega arith in
      ap rows_in (into_area s f.head rows_area (row_width * d) row (lit< tt) (omega arith) (lit< tt))
      ∙ ap (λ (o : ℕ). rows desks row_width (put o row (area s rows_area))) e
      ∙ rows-put desks row_width d 0 row (area s rows_area) h (omega arith)
      ∙ ap (set (rows desks row_width (area s rows_area)) d) (put_whole row _ (l ∙ sym (ap length (rows_at desks row_width d (area s rows_area) h) ∙ part_length (row_width * d) row_width (area s rows_area) (omega (arith, area-length s f rows_area (lit< tt))))))

  pub entries-kept : in_use (put (row_at d s) row s) ≡ in_use s
  unfolding areas upto
  entries-kept = ap entries_in (into_area s f.head rows_area (row_width * d) row (lit< tt) (omega arith) (lit< tt))

  pub row_now : row_of d (put (row_at d s) row s) ≡ row
  row_now =
      let kept : header (put (row_at d s) row s) ≡ header s = header-kept s f.head rows_area (row_width * d) row (lit< tt) (omega arith) (lit< tt) in
      rw kept (ap (λ (n : ℕ). part (row_at d s) n (put (row_at d s) row s)) (sym l) ∙ part-put-same (row_at d s) row s (omega (arith, row_inside s f d h)))

  pub row-anew : Flagged row → DeskLegal (desk_in row (records_of d (in_use s))) → Left d row (records_of d (in_use s)) s (put (row_at d s) row s)
  unfolding view view_of
  row-anew flags legal =
      let says : view (put (row_at d s) row s) ≡ set (view s) d (desk_in row (records_of d (in_use s))) = rw (rows-now, entries-kept) (box-row 0 (rows_in (areas s)) (in_use s) d row ∙ rw zero-add) in
      record {
        still =
            record {
              size = put-length (row_at d s) row s ∙ f.size;
              head = rw (header-kept s f.head rows_area (row_width * d) row (lit< tt) (omega arith) (lit< tt)) f.head;
              owners = rw entries-kept f.owners;
              flags = rw rows-now (all_set Flagged (rows_in (areas s)) d row f.flags flags);
              box = rw says (set-legal (view s) d _ f.box legal);
            };
        now-view = says;
        alone = untouched-into s f.head rows_area (row_width * d) row (lit< tt) (lit< tt) (omega arith);
      }

-- ---- the entries anew, with their count

module _ (s : List ℕ) (f : Sound s) (d : ℕ) (h : d < desks) (t : List ℕ) (l : length t ≡ size_of entries_area) (n : ℕ) (few : n ≤ entry_count) where
  -- the entries are written, and then the count
  abbrev pub refilled : List ℕ
  refilled = put (start_of (header s) entries_area) t s

  head-kept : header refilled ≡ header s
  head-kept = ap (λ (p : ℕ). header (put p t s)) (sym (add-zero (start_of (header s) entries_area))) ∙ header-kept s f.head entries_area 0 t (lit< tt) (omega arith) (lit< tt)

  refilled-alone : Untouched s refilled
  refilled-alone = subst (λ (p : ℕ). Untouched s (put p t s)) (add-zero (start_of (header s) entries_area)) (untouched-into s f.head entries_area 0 t (lit< tt) (lit< tt) (omega arith))

  size-kept : length refilled ≡ store_size
  size-kept = put-length (start_of (header s) entries_area) t s ∙ f.size

  areas-now : areas (recounted n refilled) ≡ change header_area (put used_at (octets 2 n)) (change entries_area (put 0 t) (areas s))
  areas-now =
      into-count refilled size-kept n few (rw head-kept f.head)
      ∙ ap (change header_area (put used_at (octets 2 n)))
      (ap (λ (p : ℕ). areas (put p t s)) (sym (add-zero (start_of (header s) entries_area))) ∙ into_area s f.head entries_area 0 t (lit< tt) (omega arith) (lit< tt))

  entries-now : in_use (recounted n refilled) ≡ entries n t
  unfolding areas upto
  entries-now =
      let whole : put 0 t (area s entries_area) ≡ t = put_whole t (area s entries_area) (l ∙ sym (area-length s f entries_area (lit< tt))) in
      let count : used_of (put used_at (octets 2 n) (area s header_area)) ≡ n = used-counted n (area s header_area) few (area-length s f header_area (lit< tt)) in
      ap entries_in areas-now ∙ rw (whole, count)

  rows-kept : rows_in (areas (recounted n refilled)) ≡ rows_in (areas s)
  unfolding areas upto
  rows-kept = ap rows_in areas-now

  pub entries-anew : owners_below desks (entries n t) ≡ true → ((c : ℕ) → c < desks → (c ≡ d → ⊥) → records_of c (entries n t) ≡ records_of c (in_use s))
      → DeskLegal (desk_in (row_of d s) (records_of d (entries n t)))
      → Left d (row_of d s) (records_of d (entries n t)) s (recounted n refilled)
  unfolding view view_of
  entries-anew ok others legal =
      let count : length (rows_in (areas s)) ≡ desks = rows-length desks row_width (get_or (areas s) rows_area []) in
      let says : view (recounted n refilled) ≡ set (view s) d (desk_in (row_of d s) (records_of d (entries n t))) =
      rw (rows-kept, entries-now) (box-records 0 (rows_in (areas s)) (in_use s) (entries n t) d (omega arith) (λ c b ne. others c (omega arith) (λ q. ne (omega arith))) ∙ rw (zero-add, row_is s f d h))
      in
      record {
        still =
            record {
              size = put-length used_at (octets 2 n) refilled ∙ size-kept;
              head = rw (header-counted refilled size-kept n few, head-kept) (counted-fine n (header s) f.head few (header-length s f.size n few));
              owners = rw entries-now ok;
              flags = rw rows-kept f.flags;
              box = rw says (set-legal (view s) d _ f.box legal);
            };
        now-view = says;
        alone = untouched-then s refilled (recounted n refilled) refilled-alone (untouched-count refilled n);
      }
