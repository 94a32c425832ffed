-- What the data of a reply say. Assumes nothing.
use Rattle.std.specs.Prelude.{ℕ, ◌+◌, ◌*◌, Bool, cond, not, ◌&&◌, ◌||◌, List, [], ◌∷◌, length, get_or, replicate, eqb, ltb, leb}
use Rattle.octets.specs.Tests.{first}
use Rattle.octets.specs.Parts.{part}
use Rattle.octets.specs.Numbers.{number, u16_at}
use Rattle.frame.specs.Finding.{Finding, finding}
use Rattle.timer.specs.declared.Timer.{Timer}
use Rattle.timer.specs.Clock.{timer_from}
use Rattle.table.specs.Entries.{record_width, share}
use Rattle.rules.specs.Config.{block_size}
use Rattle.rules.specs.Records.{records_for}
use Rattle.typed.specs.declared.Sizes.{Sizes}
use Rattle.typed.specs.declared.Sighting.{Sighting}

-- 8: data of another length than a reply to that command carries
unfoldable pub other_length : ℕ → List ℕ → List (ℕ × Bool)
other_length size sent = (8, not (eqb (length sent) size)) ∷ []

-- ---- 0x80: fourteen bytes

unfoldable pub block_told : List ℕ → Finding (List ℕ)
block_told sent = finding (first (other_length block_size sent)) sent

-- for those who want bytes in any case: zeros where they are refused
unfoldable pub bytes_of : List ℕ → List ℕ
bytes_of sent = cond (eqb (length sent) block_size) sent (replicate block_size 0)

-- ---- 0x86: the timer

unfoldable pub timer_told : List ℕ → Finding Timer
timer_told sent = finding (first (other_length 4 sent)) (timer_from sent)

-- ---- 0x31: TAB-SIZE, TAB-START, TAB-LEN

unfoldable pub sizes_from : List ℕ → Sizes
sizes_from sent = record { size = u16_at 0 sent; start = u16_at 2 sent; len = u16_at 4 sent }

unfoldable pub sizes_told : List ℕ → Finding Sizes
sizes_told sent = finding (first (other_length 6 sent)) (sizes_from sent)

-- ---- 0x22: records

-- a reply carries no data, or a count from 1 to 64 and as many records
unfoldable pub read_data : List ℕ → Bool
read_data sent =
    eqb (length sent) 0 || (ltb 0 (u16_at 0 sent) && leb (u16_at 0 sent) share && eqb (length sent) (2 + u16_at 0 sent * record_width))

-- 8: data that no reply to 0x22 carries
unfoldable pub count_refusals : List ℕ → List (ℕ × Bool)
count_refusals sent = (8, not (read_data sent)) ∷ []

-- how many records they are
unfoldable pub count_told : List ℕ → Finding ℕ
count_told sent = finding (first (count_refusals sent)) (records_for (length sent))

-- a record: UID 8, timer 4, antenna mask 1
unfoldable pub sighting_from : List ℕ → Sighting
sighting_from r = record { uid = number (part 0 8 r); timer = timer_from (part 8 4 r); mask = get_or r 12 0 }

-- record i, the oldest is record 0
abbrev pub sighting_at : List ℕ → ℕ → Sighting
sighting_at sent i = sighting_from (part (2 + i * record_width) record_width sent)

-- 6: a record beyond the last; 8: data that no reply to 0x22 carries
unfoldable pub record_refusals : List ℕ → ℕ → List (ℕ × Bool)
record_refusals sent i = (6, leb (records_for (length sent)) i) ∷ count_refusals sent

unfoldable pub record_told : List ℕ → ℕ → Finding Sighting
record_told sent i = finding (first (record_refusals sent i)) (sighting_at sent i)
