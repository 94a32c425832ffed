-- Whether a store is sound: the paper's sentence. Size, offsets and counts here; the rest is that the box which the store says is legal.
-- Assumes nothing.
use Rattle.std.specs.Prelude.{ℕ, ◌+◌, Bool, ◌&&◌, List, length, eqb, leb}
use Rattle.octets.specs.Tests.{every, all_of}
use Rattle.octets.specs.Numbers.{number}
use Rattle.octets.specs.Areas.{clear_below}
use Rattle.table.specs.Entries.{desks, entry_count, owners_below}
use Rattle.rules.specs.Legal.{box_legal}
use Rattle.store.specs.Layout.{store_size, area_count, size_of, header, start_of, used_of, areas}
use Rattle.store.specs.Rows.{login_field, mark_field, field}
use Rattle.store.specs.View.{rows_in, entries_in, view_of}

-- ---- the header: offsets inside, no two areas overlapping, the count of entries in range

-- area k ends within the store, and shares no octet with an area before it
abbrev pub area_fits : List ℕ → ℕ → Bool
area_fits h k = leb (start_of h k + size_of k) store_size && clear_below (start_of h) size_of k

unfoldable pub fine : List ℕ → Bool
fine h = every area_count (area_fits h) && leb (used_of h) entry_count

-- ---- the contents of the areas

-- login and mark of a row are 0 or 1
unfoldable pub flags_right : List ℕ → Bool
flags_right row = leb (number (field row login_field)) 1 && leb (number (field row mark_field)) 1

-- each record owned once and by a desk; login and mark 0 or 1; and the box is legal: at most 64 records a desk, timers and blocks 7 legal,
-- the mark only where 64 are held, locks from 1 up to VALID-TIME in force, no UID locked twice, the removal due no more than the records held
unfoldable pub contents : List (List ℕ) → Bool
contents all = owners_below desks (entries_in all) && all_of flags_right (rows_in all) && box_legal (view_of all)

unfoldable pub sound : List ℕ → Bool
sound s = eqb (length s) store_size && fine (header s) && contents (areas s)
