-- The fresh store, octet for octet. Assumes nothing.
use Rattle.std.specs.Prelude.{ℕ, ◌+◌, ◌*◌, List, ◌++◌, replicate}
use Rattle.octets.specs.Parts.{put, joined}
use Rattle.octets.specs.Numbers.{octets}
use Rattle.table.specs.Entries.{desks}
use Rattle.rules.specs.Config.{defaults, valid_of}
use Rattle.store.specs.Layout.{store_size, header_size, row_width}

-- defaults in both memories, VALID-TIME that of the defaults, all else zero
unfoldable pub fresh_row : List ℕ
fresh_row = put 0 (defaults ++ defaults ++ octets 2 (valid_of defaults)) (replicate row_width 0)

-- the rows right behind the header, the entries behind the rows, none of them in use
abbrev pub rows_begin : ℕ
rows_begin = header_size

abbrev pub entries_begin : ℕ
entries_begin = rows_begin + row_width * desks

unfoldable pub fresh_header : List ℕ
fresh_header = octets 2 rows_begin ++ octets 2 entries_begin ++ octets 2 0

unfoldable pub fresh_store : List ℕ
fresh_store = put rows_begin (joined (replicate desks fresh_row)) (put 0 fresh_header (replicate store_size 0))
