-- The store: a header of offsets and a count, then areas that lie anywhere behind it.
-- Whether a store is sound, and what it says, go by its size and its areas alone. Assumes nothing.
use Rattle.std.specs.Prelude.{ℕ, zero, suc, ◌+◌, ◌-◌, ◌*◌, List, [], ◌∷◌, get_or}
use Rattle.octets.specs.Parts.{part, put}
use Rattle.octets.specs.Numbers.{octets, u16_at}
use Rattle.octets.specs.Areas.{upto}
use Rattle.table.specs.Entries.{width, desks, entry_count}
use Rattle.store.specs.Rows.{total, field_sizes}

abbrev pub store_size : ℕ
store_size = 40960

-- what is kept for a desk, but for its records
abbrev pub row_width : ℕ
row_width = total field_sizes

-- ---- the areas: the header itself, eight rows, 512 entries

abbrev pub header_area : ℕ
header_area = 0

abbrev pub rows_area : ℕ
rows_area = 1

abbrev pub entries_area : ℕ
entries_area = 2

abbrev pub area_count : ℕ
area_count = 3

-- the header: for each area behind it an offset of two octets, then how many entries are in use
abbrev pub used_at : ℕ
used_at = (area_count - 1) * 2

abbrev pub header_size : ℕ
header_size = used_at + 2

-- how many octets area k has
abbrev pub size_of : ℕ → ℕ
size_of k = get_or (header_size ∷ row_width * desks ∷ width * entry_count ∷ []) k 0

unfoldable pub header : List ℕ → List ℕ
header s = part 0 header_size s

-- by a header, where area k begins, and how many entries are in use
unfoldable pub start_of : List ℕ → ℕ → ℕ
start_of h zero = 0
start_of h (suc k) = u16_at (k * 2) h

unfoldable pub used_of : List ℕ → ℕ
used_of h = u16_at used_at h

unfoldable pub area : List ℕ → ℕ → List ℕ
area s k = part (start_of (header s) k) (size_of k) s

unfoldable pub areas : List ℕ → List (List ℕ)
areas s = upto area_count (area s)

-- where the row of desk d begins
abbrev pub row_at : ℕ → List ℕ → ℕ
row_at d s = start_of (header s) rows_area + row_width * d

abbrev pub row_of : ℕ → List ℕ → List ℕ
row_of d s = part (row_at d s) row_width s

-- s with n entries in use
abbrev pub recounted : ℕ → List ℕ → List ℕ
recounted n s = put used_at (octets 2 n) s
