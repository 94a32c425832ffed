-- The facts of a sound store, and its areas after a put. Assumes nothing.
use Prim.Native.Nat.{ℕ, ◌+◌, ◌≤◌, ◌<◌}
use mathlib.Core.Path.{◌≡◌, refl}
use mathlib.Core.List.{List}
use mathlib.Core.Bool.{true}
use native.Mathlib.Omega.{arith}
use lib.ListN.{length}
use lib.Dec.{leb, lit<}
use borrow.Author.Tests.{leb-true, le-leb, eqb-true, eq-eqb}
use Rattle.octets.specs.Parts.{part, put}
use Rattle.octets.specs.Numbers.{number, octets}
use Rattle.octets.specs.Areas.{change}
use Rattle.octets.proofs.Tests.{and_left, and_right, and_both}
use Rattle.octets.specs.Each.{All}
use Rattle.octets.proofs.Each.{all-facts, all-test}
use Rattle.octets.proofs.Puts.{part_length, part-put-away, part-put-in, apart-within}
use Rattle.octets.proofs.Numbers.{octets-length}
use Rattle.octets.proofs.Areas.{upto-change}
use Rattle.table.specs.Entries.{desks, entry_count, owners_below}
use Rattle.rules.proofs.Facts.{BoxLegal, box-facts, box-test}
use Rattle.store.specs.Layout.{recounted, store_size, size_of, header, start_of, used_of, area, areas, header_area, area_count, header_size, used_at}
use Rattle.store.specs.Rows.{login_field, mark_field, field}
use Rattle.store.specs.View.{rows_in, in_use, view_of, view}
use Rattle.store.specs.Sound.{flags_right, contents, sound}
use Rattle.store.proofs.LentAreas.{area-size}
use Rattle.store.proofs.Places.{Fine, fine-facts, fine-test, start-counted, used-counted}

-- ---- the tests and the facts

-- login and mark of a row are 0 or 1
pub record Flagged (row : List ℕ) : Type 0 where
  pub login : number (field row login_field) ≤ 1
  pub mark : number (field row mark_field) ≤ 1

flags-facts : (row : List ℕ) → flags_right row ≡ true → Flagged row
unfolding flags_right
flags-facts row e = record { login = leb-true _ 1 (and_left _ _ e); mark = leb-true _ 1 (and_right (leb (number (field row login_field)) 1) _ e) }

flags-test : (row : List ℕ) → Flagged row → flags_right row ≡ true
unfolding flags_right
flags-test row f = and_both _ _ (le-leb _ 1 f.login) (le-leb _ 1 f.mark)

pub record Sound (s : List ℕ) : Type 0 where
  pub size : length s ≡ store_size
  pub head : Fine (header s)
  pub owners : owners_below desks (in_use s) ≡ true
  pub flags : All Flagged (rows_in (areas s))
  pub box : BoxLegal (view s)

pub sound-facts : (s : List ℕ) → sound s ≡ true → Sound s
unfolding sound contents view
sound-facts s e =
    record {
      size = eqb-true (length s) store_size (search (and_left, and_right));
      head = fine-facts (header s) (search (and_left, and_right));
      owners = search (and_left, and_right);
      flags = all-facts flags_right Flagged flags-facts (rows_in (areas s)) (search (and_left, and_right));
      box = box-facts (view_of (areas s)) (search (and_left, and_right));
    }

pub sound-test : (s : List ℕ) → Sound s → sound s ≡ true
unfolding sound contents view
sound-test s f =
    rw (
      eq-eqb (length s) store_size f.size,
      fine-test (header s) f.head,
      f.owners,
      all-test flags_right Flagged flags-test (rows_in (areas s)) f.flags,
    )
    (box-test (view_of (areas s)) f.box)

-- ---- the areas

pub area-length : (s : List ℕ) → Sound s → (k : ℕ) → k < area_count → length (area s k) ≡ size_of k
area-length s f k l = area-size s f.size f.head k l

pub area-0 : (s : List ℕ) → area s header_area ≡ header s
unfolding area start_of header
area-0 s = refl

-- s with xs written in area k from its octet o on
abbrev pub into : ℕ → ℕ → List ℕ → List ℕ → List ℕ
into k o xs s = put (start_of (header s) k + o) xs s

module _ (s : List ℕ) (f : Fine (header s)) (k o : ℕ) (xs : List ℕ) (low : k < area_count) (fit : o + length xs ≤ size_of k) where
  -- what lies in another area stays
  away : (j : ℕ) → j < area_count → (k ≡ j → ⊥) → part (start_of (header s) j) (size_of j) (into k o xs s) ≡ area s j
  unfolding area
  away j l ne =
      part-put-away (start_of (header s) j) (size_of j) (start_of (header s) k + o) xs s
      (apart-within _ _ _ _ (start_of (header s) k + o) (length xs) (start_of (header s) j) (size_of j) (f.apart k j low l ne) (omega arith) (omega arith) (omega arith) (omega arith))

  areas-into : ((j : ℕ) → j < area_count → start_of (header (into k o xs s)) j ≡ start_of (header s) j) → areas (into k o xs s) ≡ change k (put o xs) (areas s)
  unfolding areas area
  areas-into p =
      upto-change area_count (area s) (area (into k o xs s)) k (put o xs) low
      (rw (p k low) (part-put-in (start_of (header s) k) (size_of k) o xs s fit))
      (λ j l ne. rw (p j l) (away j l ne))

  -- a put behind the header leaves it
  pub header-kept : 0 < k → header (into k o xs s) ≡ header s
  unfolding area start_of header
  header-kept pos = away 0 (lit< tt) (omega arith)

  pub into_area : 0 < k → areas (into k o xs s) ≡ change k (put o xs) (areas s)
  into_area pos = areas-into (λ j l. rw (header-kept pos))

module _ (s : List ℕ) (size : length s ≡ store_size) (c : ℕ) (few : c ≤ entry_count) where
  pub header-counted : header (recounted c s) ≡ put used_at (octets 2 c) (header s)
  unfolding header
  header-counted = part-put-in 0 header_size used_at (octets 2 c) s (omega (arith, octets-length 2 c))

  pub header-length : length (header s) ≡ header_size
  unfolding header
  header-length = part_length 0 header_size s (omega arith)

  pub used-now : used_of (header (recounted c s)) ≡ c
  used-now = rw header-counted (used-counted c (header s) few header-length)

  pub into-count : Fine (header s) → areas (recounted c s) ≡ change header_area (put used_at (octets 2 c)) (areas s)
  unfolding start_of
  into-count f = areas-into s f header_area used_at (octets 2 c) (lit< tt) (omega (arith, octets-length 2 c)) (λ j l. rw header-counted (start-counted c (header s) j l))
