-- The areas as parts of the store, and as they are lent. Assumes nothing.
use Prim.Native.Nat.{ℕ, ◌+◌, ◌-◌, ◌*◌, ◌<◌}
use mathlib.Core.Path.{◌≡◌, sym, ap, ◌∙◌}
use mathlib.Core.List.{List, []}
use native.Mathlib.Omega.{arith}
use lib.Dec.{lit<}
use lib.ListN.{length, take, drop, get_or}
use Rattle.octets.specs.Parts.{part, rows}
use Rattle.octets.proofs.Areas.{upto-at}
use Rattle.octets.proofs.Puts.{part-part, part_length}
use Rattle.octets.proofs.Rows.{rows_at}
use Rattle.table.specs.Entries.{desks, width, entry_count, entries}
use Rattle.store.specs.Layout.{store_size, row_width, size_of, header, start_of, used_of, area, areas, row_at, header_area, rows_area, entries_area, area_count}
use Rattle.store.specs.View.{rows_in, entries_in}
use Rattle.store.proofs.Places.{Fine}

pub areas-at : (s : List ℕ) (k : ℕ) → k < area_count → get_or (areas s) k [] ≡ area s k
unfolding areas
areas-at s k l = upto-at area_count (area s) k l

-- area 0 is the header
pub areas-header : (s : List ℕ) → get_or (areas s) header_area [] ≡ header s
unfolding area start_of header
areas-header s = areas-at s header_area (lit< tt)

pub area-size : (s : List ℕ) → length s ≡ store_size → Fine (header s) → (k : ℕ) → k < area_count → length (area s k) ≡ size_of k
unfolding area
area-size s size f k l = part_length (start_of (header s) k) (size_of k) s (omega (arith, f.within k l))

-- the row of desk d, in the store
pub row_in : (s : List ℕ) (d : ℕ) → d < desks → get_or (rows_in (areas s)) d [] ≡ part (row_at d s) row_width s
unfolding area
row_in s d l =
    ap (λ (a : List ℕ). get_or (rows desks row_width a) d []) (areas-at s rows_area (lit< tt))
    ∙ rows_at desks row_width d (area s rows_area) l
    ∙ part-part (row_width * d) row_width (start_of (header s) rows_area) (size_of rows_area) s (omega arith)

-- that row, lent: at is where it begins
pub row-lent : (s : List ℕ) (d at : ℕ) → d < desks → at ≡ row_at d s → take (at + row_width - at) (drop at s) ≡ get_or (rows_in (areas s)) d []
unfolding part
row-lent s d at l e = let n : at + row_width - at ≡ row_width = omega arith in rw (n, e) (sym (row_in s d l))

-- the entries in use, in the area that is lent: at is where it begins, n how many they are
pub entries-lent : (s : List ℕ) (at n : ℕ) → at ≡ start_of (header s) entries_area → n ≡ used_of (header s)
    → entries n (take (at + width * entry_count - at) (drop at s)) ≡ entries_in (areas s)
unfolding area part
entries-lent s at n e u =
    let m : at + width * entry_count - at ≡ width * entry_count = omega arith in
    rw (m, areas-header s, areas-at s entries_area (lit< tt), e, u)
